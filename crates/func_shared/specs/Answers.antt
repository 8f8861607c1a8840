-- The state of an operation: answers that it remembers, and frames that wait for answers. Source:
-- K. S. Brace, R. L. Rudell and R. E. Bryant, "Efficient Implementation of a BDD Package" (27th
-- Design Automation Conference, 1990), the computed table; the stack is the project's own.
use Rattle.std.specs.Prelude.{◌≡◌, ℕ, zero, suc, ◌+◌, ◌*◌, ◌<◌, ◌≤◌, All, List, [], ◌∷◌}
use Rattle.func_core.specs.Trees.{Tree, IsReduced}
use Rattle.func_shared.specs.Vertices.{tree_at, IsNumber, Has}
use Rattle.func_shared.specs.Merging.{joined, merged, SplitsAt}
use Rattle.func_core.specs.declared.operation.Operation.{Operation}
use Rattle.func_shared.specs.declared.vertex.Vertex.{Vertex}
use Rattle.func_shared.specs.declared.cache.Pair.{Pair}
use Rattle.func_shared.specs.declared.cache.Answer.{Answer}
use Rattle.func_shared.specs.declared.cache.Answers.{Answers}
use Rattle.func_shared.specs.declared.answering.Frame.{Frame}
use Rattle.func_shared.specs.declared.answering.Frame.TheVariants.{Low, High}
use Rattle.func_shared.specs.declared.answering.Turn.{Turn}
use Rattle.func_shared.specs.declared.answering.Turn.TheVariants.{Asks, Gives}

-- both numbers are numbers of a table
abbrev pub AreNumbers : List Vertex → Pair → Type 0
AreNumbers vertices pair = IsNumber vertices pair.left × IsNumber vertices pair.right

-- the tree of an operation on two numbers
abbrev pub made : List Vertex → Operation → Pair → Tree
made vertices operation pair = merged operation (tree_at vertices pair.left)
    (tree_at vertices pair.right)

-- a remembered answer is right
abbrev pub IsAnswer : List Vertex → Answer → Type 0
IsAnswer vertices slot =
    IsNumber vertices slot.left × IsNumber vertices slot.right
    × Has vertices slot.number (merged slot.operation (tree_at vertices slot.left)
    (tree_at vertices slot.right))

-- all remembered answers are right
abbrev pub AreAnswers : List Vertex → Answers → Type 0
AreAnswers vertices answers = All (IsAnswer vertices) answers.slots.items

-- answers that are right for any table remain right
abbrev pub StayAnswers : Answers → Answers → Type 0
StayAnswers old new = (vertices : List Vertex) → AreAnswers vertices old → AreAnswers vertices new

-- the vertex of a number; for a constant a vertex below all others, with the constant as both
-- halves
pub record IsOpened (vertices : List Vertex) (number : ℕ) (vertex : Vertex) : Type 0 where
  pub low : IsNumber vertices vertex.low
  pub high : IsNumber vertices vertex.high
  pub splits : SplitsAt vertex.place (tree_at vertices number) (tree_at vertices vertex.low)
      (tree_at vertices vertex.high)
  pub above : (place : ℕ) → place < vertex.place →
      SplitsAt place (tree_at vertices number) (tree_at vertices number) (tree_at vertices number)
  pub low_falls : vertex.low ≤ number
  pub high_falls : vertex.high ≤ number
  pub falls : 2 ≤ number → (vertex.low < number) × (vertex.high < number)
  pub last : number < 2 → vertex.place ≡ 4294967295

-- a tree is joined at a variable from two trees above it
pub record Joins (t : Tree) (place : ℕ) (low high : Tree) : Type 0 where
  pub is : t ≡ joined place low high
  pub low_reduced : IsReduced (suc place) low
  pub high_reduced : IsReduced (suc place) high

-- the pair whose answer a frame will give
abbrev pub pair_of : Frame → Pair
pair_of (Low pair place high) = pair
pair_of (High pair place low) = pair

-- a frame waits for a tree, that of a half of the frame's pair
abbrev pub IsFrame : List Vertex → Operation → Frame → Tree → Type 0
IsFrame vertices operation (Low pair place high) asked =
    AreNumbers vertices pair × AreNumbers vertices high
    × Joins (made vertices operation pair) place asked (made vertices operation high)
IsFrame vertices operation (High pair place low) asked =
    AreNumbers vertices pair × IsNumber vertices low
    × Joins (made vertices operation pair) place (tree_at vertices low) asked

-- the top frame waits for a tree, each other one for that of the frame above it, and the answer of
-- the last one is the goal
abbrev pub IsStack : List Vertex → Operation → Tree → List Frame → Tree → Type 0
IsStack vertices operation goal [] asked = asked ≡ goal
IsStack vertices operation goal (frame ∷ below) asked =
    IsFrame vertices operation frame asked
    × IsStack vertices operation goal below (made vertices operation (pair_of frame))

-- the tree that a turn asks for or gives
abbrev pub turn_tree : List Vertex → Operation → Turn → Tree
turn_tree vertices operation (Asks pair) = made vertices operation pair
turn_tree vertices operation (Gives number) = tree_at vertices number

-- the numbers of a turn are numbers of a table
abbrev pub IsTurn : List Vertex → Turn → Type 0
IsTurn vertices (Asks pair) = AreNumbers vertices pair
IsTurn vertices (Gives number) = IsNumber vertices number

-- a bound on the work for a pair, by the sum of its numbers
unfoldable pub cost : ℕ → ℕ
cost zero = 1
cost (suc n) = 2 * cost n + 3

-- the bounds for a turn, for a frame and for a stack
abbrev pub turn_cost : Turn → ℕ
turn_cost (Asks pair) = cost (pair.left + pair.right)
turn_cost (Gives number) = 0

abbrev pub frame_cost : Frame → ℕ
frame_cost (Low pair place high) = cost (high.left + high.right) + 2
frame_cost (High pair place low) = 1

abbrev pub stack_cost : List Frame → ℕ
stack_cost [] = 0
stack_cost (frame ∷ below) = frame_cost frame + stack_cost below

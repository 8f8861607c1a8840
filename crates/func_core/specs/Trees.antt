-- Boolean functions of numbered variables, and their reduced ordered decision trees. Source: R. E.
-- Bryant, "Graph-Based Algorithms for Boolean Function Manipulation", IEEE Transactions on
-- Computers C-35 (1986).
use Rattle.std.specs.Prelude.{◌≡◌, ℕ, suc, ◌≤◌, Bool, true, false, not, ◌&&◌, ◌||◌, if◌then◌else◌}

-- a Boolean function of the variables 0, 1, ..: its bit at each valuation of them
abbrev pub BooleanFunction : Type 0
BooleanFunction = (ℕ → Bool) → Bool

-- the same bit everywhere
abbrev pub constant : Bool → BooleanFunction
constant bit = λ point. bit

-- the bit of a variable
abbrev pub variable : ℕ → BooleanFunction
variable place = λ point. point place

-- true where a function is false
abbrev pub complement : BooleanFunction → BooleanFunction
complement f = λ point. not (f point)

-- true where both functions are
abbrev pub conjunction : BooleanFunction → BooleanFunction → BooleanFunction
conjunction f g = λ point. f point && g point

-- true where at least one of the functions is
abbrev pub disjunction : BooleanFunction → BooleanFunction → BooleanFunction
disjunction f g = λ point. f point || g point

-- exclusive or of two bits
abbrev pub differ : Bool → Bool → Bool
differ false b = b
differ true b = not b

-- true where exactly one of the functions is
abbrev pub exclusive_or : BooleanFunction → BooleanFunction → BooleanFunction
exclusive_or f g = λ point. differ (f point) (g point)

-- a decision tree: a constant, or a variable with its subtrees for false and for true
pub data Tree : Type 0 where
  Zero : Tree
  One : Tree
  Node : ℕ → Tree → Tree → Tree

-- the function that a tree computes
unfoldable pub eval : Tree → (ℕ → Bool) → Bool
eval Zero point = false
eval One point = true
eval (Node place lo hi) point = if point place then eval hi point else eval lo point

-- reduced, and with no variable below a least one: variables increase on each path, and no node has
-- equal halves
unfoldable pub IsReduced : ℕ → Tree → Type 0
IsReduced least Zero = Unit {0}
IsReduced least One = Unit {0}
IsReduced least (Node place lo hi) =
    (least ≤ place) × (lo ≡ hi → ⊥) × IsReduced (suc place) lo × IsReduced (suc place) hi

-- a function's tree: reduced, and with the function's bit at each valuation
pub record IsTreeOf (f : BooleanFunction) (t : Tree) : Type 0 where
  pub reduced : IsReduced 0 t
  pub computes : (point : ℕ → Bool) → eval t point ≡ f point

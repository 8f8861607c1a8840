-- How the gates of a cover are written: vertices in postorder, over a stack of signals. Source:
-- Knuth, "The Art of Computer Programming", volume 1, section 2.3.1: a tree in postorder, by a
-- stack and without recursion, and the value of a formula in postfix order by a stack of its
-- operands.
use Rattle.std.specs.Prelude.{◌≡◌, ℕ, zero, suc, ◌*◌, ◌-◌, ◌<◌, Some, List, [], ◌∷◌, ◌++◌, length, take, drop, slice_get, fold}
use Rattle.std.specs.List.{AllByRecursion, flat_map}
use Rattle.subject_tree.specs.Arenas.{vertex_at}
use Rattle.subject_tree.specs.declared.arena.Vertex.{Vertex}
use Rattle.subject_tree.specs.declared.arena.Vertex.TheVariants.{Leaf as VertexLeaf, Inv, Nand}
use Rattle.tree_cover.specs.declared.choice.Choice.{Choice}
use Rattle.tree_cover.specs.Candidates.{choice_at}
use Rattle.tree_cover.specs.declared.writing.Signal.{Signal}
use Rattle.tree_cover.specs.declared.writing.Signal.TheVariants.{Leaf as AtLeaf, Gate}
use Rattle.tree_cover.specs.declared.writing.CoverGate.{CoverGate}
use Rattle.tree_cover.specs.declared.writing.Step.{Step}
use Rattle.tree_cover.specs.declared.writing.Step.TheVariants.{Visit, Write}

-- the choice at each number has lower numbers at its pins
abbrev pub AreBelow : List Choice → Type 0
AreBelow choices = (n : ℕ) (choice : Choice) → slice_get choices n ≡ Some choice → AllByRecursion (λ m. m < n) choice.pins

-- an event in postorder: a leaf is met, or the gate of a number is written after those at its pins
pub data Event : Type 0 where
  meet : ℕ → Event
  put : ℕ → Event

-- the events at a vertex, given those at the pins
abbrev pub events_by : Vertex → ℕ → List Event → List Event
events_by (VertexLeaf place) n below = meet place ∷ []
events_by (Inv m) n below = below ++ put n ∷ []
events_by (Nand l r) n below = below ++ put n ∷ []

-- the events at a number, down to a depth
unfoldable pub postorder : List Vertex → List Choice → ℕ → ℕ → List Event
postorder vertices choices zero n = []
postorder vertices choices (suc depth) n = events_by (vertex_at vertices n) n (flat_map (postorder vertices choices depth) (choice_at choices n).pins)

-- the signals that no gate has used yet, the newest last, and the gates so far
pub record Progress : Type 0 where
  pub signals : List Signal
  pub gates : List CoverGate

-- the progress after the gate of a choice: it takes the newest signals for its pins, and drives a
-- signal of its own
abbrev pub gate_put : Choice → Progress → Progress
gate_put choice progress =
    let kept = length progress.signals - length choice.pins in
    record {
      signals = take kept progress.signals ++ Gate (length progress.gates) ∷ [];
      gates = progress.gates ++ record { place = choice.place; pins = drop kept progress.signals } ∷ [];
    }

-- the progress after an event
abbrev pub after_event : List Choice → Progress → Event → Progress
after_event choices progress (meet place) = record { signals = progress.signals ++ AtLeaf place ∷ []; gates = progress.gates }
after_event choices progress (put n) = gate_put (choice_at choices n) progress

-- the progress after events
unfoldable pub after : List Choice → Progress → List Event → Progress
after choices progress events = fold (after_event choices) progress events

-- the visits of numbers, the first of them last
unfoldable pub visits : List ℕ → List Step
visits [] = []
visits (n ∷ ns) = visits ns ++ Visit n ∷ []

-- the events of a step
abbrev pub planned : List Vertex → List Choice → ℕ → Step → List Event
planned vertices choices depth (Visit n) = postorder vertices choices depth n
planned vertices choices depth (Write n) = put n ∷ []

-- the events of pending steps, the last step first
unfoldable pub to_come : List Vertex → List Choice → ℕ → List Step → List Event
to_come vertices choices depth [] = []
to_come vertices choices depth (step ∷ waiting) = to_come vertices choices depth waiting ++ planned vertices choices depth step

-- the most turns that a step takes
abbrev pub turns_of : List Vertex → List Choice → ℕ → Step → ℕ
turns_of vertices choices depth (Visit n) = 2 * length (postorder vertices choices depth n)
turns_of vertices choices depth (Write n) = 1

-- a step is at a number below a bound
abbrev pub StepBelow : ℕ → Step → Type 0
StepBelow bound (Visit n) = n < bound
StepBelow bound (Write n) = n < bound

-- the signal of a vertex that is a leaf
abbrev pub leaf_signals : Vertex → List Signal
leaf_signals (VertexLeaf place) = AtLeaf place ∷ []
leaf_signals (Inv m) = []
leaf_signals (Nand l r) = []

-- the steps that the visit of a vertex pushes, the last of them the first to be done
abbrev pub first_steps : Vertex → ℕ → List ℕ → List Step
first_steps (VertexLeaf place) n pins = []
first_steps (Inv m) n pins = Write n ∷ visits pins
first_steps (Nand l r) n pins = Write n ∷ visits pins

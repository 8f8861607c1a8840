-- The gates of the cover that is taken of a tree, in the order in which they are written, and what
-- their pins are bound to.
-- Source: Keutzer, "DAGON: Technology binding and local optimization by DAG matching" (24th Design
-- Automation Conference, 1987): the gates of a tree's cover are those of the covers of the trees at
-- the pins, and the gate that is taken; Knuth, "The Art of Computer Programming", volume 1, section
-- 2.3.1: the postorder of a tree. That a tree which occurs several times is covered each time is
-- the project's own.
use Rattle.std.specs.Prelude.{◌≡◌, ℕ, ◌+◌, ◌<◌, Bool, false, Some, List, [], ◌∷◌, ◌++◌, length, slice_get, slice_index_or}
use Rattle.std.specs.List.{AllByRecursion, Contains}
use Rattle.std.specs.Option.{option_map_or}
use Rattle.std.specs.declared.cmp.Ordering.{Ordering}
use Rattle.subject_tree.specs.Trees.{Tree, Leaf}
use Rattle.genlib_expr.specs.Formula.{Formula, constant, formula_of}
use Rattle.genlib_expr.specs.Values.{formula_value}
use Rattle.pattern_set.specs.Patterns.{IsPattern}
use Rattle.pattern_set.specs.Values.{HasLeaf}
use Rattle.pattern_set.specs.declared.cells.Cell.{Cell}
use Rattle.tree_cover.specs.Covers.{Tile, IsGiven}
use Rattle.tree_cover.specs.declared.writing.Signal.{Signal}
use Rattle.tree_cover.specs.declared.writing.Signal.TheVariants.{Leaf as AtLeaf, Gate}
use Rattle.tree_cover.specs.declared.writing.CoverGate.{CoverGate}

mutual
  -- the gates of the cover that is taken of a tree, after so many other gates, and the signal that
  -- drives the tree's root: no gate and the leaf itself at a leaf; else the gates of the trees at
  -- the pins, in the order of the pins, then the gate that is taken, which drives the root
  pub data IsWritten (cmp : Tree ℕ → Tree ℕ → Ordering) (library : List Tile) : Tree ℕ → ℕ → Signal → List CoverGate → Type 0 where
    written_leaf : (place start : ℕ) → IsWritten cmp library (Leaf place) start (AtLeaf place) []
    written_gate : (t : Tree ℕ) (start cost place : ℕ) (bound : List (Tree ℕ)) (pins : List Signal) (before : List CoverGate)
        → IsGiven cmp library t cost place bound → AreWritten cmp library bound start pins before
        → IsWritten cmp library t start (Gate (start + length before)) (before ++ record { place = place; pins = pins } ∷ [])

  -- those of several trees, one after the other
  pub data AreWritten (cmp : Tree ℕ → Tree ℕ → Ordering) (library : List Tile) : List (Tree ℕ) → ℕ → List Signal → List CoverGate → Type 0 where
    none_written : (start : ℕ) → AreWritten cmp library [] start [] []
    more_written : (t : Tree ℕ) (ts : List (Tree ℕ)) (start : ℕ) (signal : Signal) (signals : List Signal) (first rest : List CoverGate)
        → IsWritten cmp library t start signal first → AreWritten cmp library ts (start + length first) signals rest
        → AreWritten cmp library (t ∷ ts) start (signal ∷ signals) (first ++ rest)

-- the area of the gate at an index of a library; 0 past its end
abbrev pub area_at : List Tile → ℕ → ℕ
area_at library place = option_map_or (λ (tile : Tile). tile.area) (slice_get library place) 0

-- the value of a signal, given those of the leaves and of the gates
abbrev pub signal_value : (ℕ → Bool) → (ℕ → Bool) → Signal → Bool
signal_value value driven (AtLeaf place) = value place
signal_value value driven (Gate k) = driven k

-- what a pin is bound to
abbrev pub signal_at : List Signal → ℕ → Signal
signal_at pins pin = slice_index_or pins pin (AtLeaf 0)

-- each gate, after so many others, has the value of its function at the values of what its pins are
-- bound to
abbrev pub Obeys : (ℕ → Formula) → (ℕ → Bool) → (ℕ → Bool) → ℕ → List CoverGate → Type 0
Obeys functions value driven start gates =
    (k : ℕ) (gate : CoverGate) → slice_get gates k ≡ Some gate → driven (start + k) ≡ formula_value (λ pin. signal_value value driven (signal_at gate.pins pin)) (functions gate.place)

-- the patterns of each gate of a library are patterns of its function
abbrev pub Describes : (ℕ → Formula) → List Tile → Type 0
Describes functions library =
    (place : ℕ) (tile : Tile) (pattern : Tree ℕ) → slice_get library place ≡ Some tile → Contains tile.patterns pattern → IsPattern (functions place) pattern

-- the function of the cell at an index
abbrev pub function_at : List Cell → ℕ → Formula
function_at cells place = option_map_or (λ (cell : Cell). formula_of cell.expr.now) (slice_get cells place) (constant false)

-- each pin of a gate of a library occurs in each of its patterns
abbrev pub UsesPins : List Tile → Type 0
UsesPins library =
    (place : ℕ) (tile : Tile) (pattern : Tree ℕ) (pin : ℕ) → slice_get library place ≡ Some tile → Contains tile.patterns pattern → pin < tile.pins → HasLeaf pin pattern

-- a signal that exists where there are so many gates: one of some leaves, or one of the gates
abbrev pub StandsBefore : (ℕ → Type 0) → ℕ → Signal → Type 0
StandsBefore leaves bound (AtLeaf place) = leaves place
StandsBefore leaves bound (Gate k) = k < bound

-- each gate, after so many others, is of the library and has a signal at each of its pins, one of
-- some leaves or an earlier gate
abbrev pub AreWired : List Tile → (ℕ → Type 0) → ℕ → List CoverGate → Type 0
AreWired library leaves start gates =
    (k : ℕ) (gate : CoverGate) → slice_get gates k ≡ Some gate
    → (tile : Tile) × (slice_get library gate.place ≡ Some tile) × (length gate.pins ≡ tile.pins) × AllByRecursion (StandsBefore leaves (start + k)) gate.pins

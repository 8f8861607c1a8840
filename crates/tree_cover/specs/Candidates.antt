-- The candidates at a vertex, and which of them is the best.
-- Source: Aho, Ganapathi, Tjiang, "Code generation using tree matching and dynamic programming"
-- (ACM Transactions on Programming Languages and Systems 11, 1989): at each vertex the cheapest
-- match, from those at the vertices below it.
use Rattle.std.specs.Prelude.{◌≡◌, ◌↔◌, ℕ, ◌+◌, ◌*◌, ◌^◌, ◌<◌, ◌≤◌, true, Option, Some, None, List, [], length, slice_get, slice_index_or, if◌then◌else◌}
use Rattle.std.specs.List.{AllByRecursion, sum_by}
use Rattle.std.specs.Option.{option_map_or}
use Rattle.std.specs.Ordering.{is_gt}
use Rattle.std.specs.declared.cmp.Ordering.{Ordering}
use Rattle.std.specs.declared.cmp.Ordering.TheVariants.{Greater}
use Rattle.subject_tree.specs.Trees.{Tree, Leaf, size_of}
use Rattle.subject_tree.specs.Arenas.{tree_at}
use Rattle.subject_tree.specs.Tables.{trees_of}
use Rattle.subject_tree.specs.declared.arena.Vertex.{Vertex}
use Rattle.genlib_expr.specs.Formula.{formula_of}
use Rattle.pattern_set.specs.Values.{HasPin, HasLeaf}
use Rattle.pattern_set.specs.Cells.{is_inverter, is_nand, has_some}
use Rattle.pattern_set.specs.declared.cells.Cell.{Cell}
use Rattle.pattern_set.specs.declared.cells.PatternGate.{PatternGate}
use Rattle.tree_cover.specs.Covers.{IsProper, Tile, Least, IsGiven, choice_cmp}
use Rattle.tree_cover.specs.Bindings.{matched}
use Rattle.tree_cover.specs.declared.binding.Binding.{Binding}
use Rattle.tree_cover.specs.declared.choice.Choice.{Choice}
use Rattle.sis_base.specs.declared.limits.TheConstants.{MAX_PINS}

-- how choices compare, by the numbers of the trees at their pins
abbrev pub order_of : (Tree ℕ → Tree ℕ → Ordering) → List Vertex → Choice → Choice → Ordering
order_of cmp vertices one other =
    choice_cmp cmp one.cost one.place (trees_of vertices one.pins) other.cost other.place (trees_of vertices other.pins)

-- the better of two choices, if there are two; the first if they are equal
abbrev pub better_of : (Choice → Choice → Ordering) → Option Choice → Option Choice → Option Choice
better_of order None other = other
better_of order (Some one) None = Some one
better_of order (Some one) (Some other) = if is_gt (order one other) then Some other else Some one

-- the best of the choices of a kind: one of them that comes after none of the others, and none if
-- there is none
pub record BestOf (order : Choice → Choice → Ordering) (P : Choice → Type 0) (best : Option Choice) : Type 0 where
  pub among : (choice : Choice) → best ≡ Some choice → P choice
  pub first : (choice other : Choice) → best ≡ Some choice → P other → order choice other ≡ Greater → ⊥
  pub none : (other : Choice) → best ≡ None → P other → ⊥

-- the number that a pin is bound to, if it is bound
abbrev pub bound_at : Binding → ℕ → Option ℕ
bound_at binding pin = option_map_or (λ (number : Option ℕ). number) (slice_get binding.pins pin) None

-- a binding binds the first pins, to these numbers
abbrev pub Binds : Binding → List ℕ → Type 0
Binds binding numbers = (pin : ℕ) → pin < length numbers → bound_at binding pin ≡ slice_get numbers pin

-- a choice costs no more than a tree of 2^20 vertices may
abbrev pub IsSmall : Choice → Type 0
IsSmall choice = choice.cost ≤ 2 ^ 70

-- the choice at a number; one of no pins past the last
abbrev pub choice_at : List Choice → ℕ → Choice
choice_at choices n = slice_index_or choices n (record { cost = 0; place = 0; pins = [] })

-- the cost of the tree of a number, by the choices made
abbrev pub cost_at : List Choice → ℕ → ℕ
cost_at choices n = (choice_at choices n).cost

-- a choice comes from a binding of a gate's pins
pub record IsFrom (choices : List Choice) (gate : PatternGate) (place : ℕ) (binding : Binding) (choice : Choice) : Type 0 where
  pub at : choice.place ≡ place
  pub count : length choice.pins ≡ gate.pins
  pub binds : Binds binding choice.pins
  pub sum : choice.cost ≡ gate.area + sum_by (cost_at choices) choice.pins

-- one of the items below an index
abbrev pub Below : ℕ → (ℕ → Choice → Type 0) → Choice → Type 0
Below bound Q choice = (k : ℕ) × (k < bound) × Q k choice

-- a choice comes from one of some bindings
abbrev pub FromBindings : List Choice → PatternGate → ℕ → List Binding → ℕ → Choice → Type 0
FromBindings choices gate place bindings k choice = (binding : Binding) × (slice_get bindings k ≡ Some binding) × IsFrom choices gate place binding choice

-- a choice comes from a match of a pattern that is more than a pin
abbrev pub FromPattern : List Vertex → List Choice → PatternGate → ℕ → ℕ → Tree ℕ → Choice → Type 0
FromPattern vertices choices gate place n pattern choice =
    IsProper pattern × Below (length (matched vertices pattern n)) (FromBindings choices gate place (matched vertices pattern n)) choice

-- a choice comes from one of a gate's patterns
abbrev pub FromPatterns : List Vertex → List Vertex → List Choice → PatternGate → ℕ → ℕ → ℕ → Choice → Type 0
FromPatterns vertices shapes choices gate place n k choice =
    (pattern : ℕ) × (slice_get gate.patterns k ≡ Some pattern) × FromPattern vertices choices gate place n (tree_at shapes pattern) choice

-- a choice comes from a gate of a library
abbrev pub FromGates : List Vertex → List Vertex → List Choice → List PatternGate → ℕ → ℕ → Choice → Type 0
FromGates vertices shapes choices gates n place choice =
    (gate : PatternGate) × (slice_get gates place ≡ Some gate) × Below (length gate.patterns) (FromPatterns vertices shapes choices gate place n) choice

-- a usable gate: its area is below 2^50, and the leaves of each of its patterns are exactly its
-- pins, of which there are at most fifteen
pub record IsUsable (shapes : List Vertex) (gate : PatternGate) : Type 0 where
  pub area : gate.area < 2 ^ 50
  pub few : gate.pins ≤ MAX_PINS
  pub leaves : AllByRecursion (λ (pattern : Tree ℕ). (pin : ℕ) → HasLeaf pin pattern ↔ (pin < gate.pins)) (trees_of shapes gate.patterns)

-- a cell of a library as its reader gives it: its area is below 2^50, and its pins, at most
-- fifteen, are those of its formula
pub record IsWellFormed (cell : Cell) : Type 0 where
  pub area : cell.area < 2 ^ 50
  pub few : cell.pins ≤ MAX_PINS
  pub pins : (pin : ℕ) → HasPin pin (formula_of cell.expr.now) ↔ (pin < cell.pins)

-- a library: its gates are usable, and there are an inverter and a NAND of two pins
pub record IsLibrary (shapes : List Vertex) (gates : List PatternGate) : Type 0 where
  pub usable : AllByRecursion (IsUsable shapes) gates
  pub inverter : has_some is_inverter shapes gates ≡ true
  pub nand : has_some is_nand shapes gates ≡ true

-- the choice at a number: it costs the least, it is the one that is taken if the tree is no leaf,
-- and its pins are bound to lower numbers
pub record IsChoice (cmp : Tree ℕ → Tree ℕ → Ordering) (vertices : List Vertex) (library : List Tile) (n : ℕ) (choice : Choice) : Type 0 where
  pub least : Least library (tree_at vertices n) choice.cost
  pub given : ((place : ℕ) → tree_at vertices n ≡ Leaf place → ⊥) → IsGiven cmp library (tree_at vertices n) choice.cost choice.place (trees_of vertices choice.pins)
  pub below : AllByRecursion (λ m. m < n) choice.pins
  pub small : choice.cost ≤ 2 ^ 50 * size_of (tree_at vertices n)

-- there is one choice for each of the first vertices
pub record AreMade (cmp : Tree ℕ → Tree ℕ → Ordering) (vertices : List Vertex) (library : List Tile) (choices : List Choice) (n : ℕ) : Type 0 where
  pub count : length choices ≡ n
  pub made : (m : ℕ) (choice : Choice) → slice_get choices m ≡ Some choice → IsChoice cmp vertices library m choice

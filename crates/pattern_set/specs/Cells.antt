-- Which patterns are listed for the gates of a library. Source: Keutzer, "DAGON: Technology binding
-- and local optimization by DAG matching" (24th Design Automation Conference, 1987): a library is
-- complete where it has an inverter and a NAND of two pins.
use Rattle.std.specs.Prelude.{◌≡◌, ℕ, ◌==◌, Bool, true, false, not, List, nat_eq}
use Rattle.std.specs.List.{AllByRecursion, Contains, IsDistinct, AllZip, list_any}
use Rattle.std.specs.declared.result.Result.{Result}
use Rattle.std.specs.declared.result.Result.TheVariants.{Ok, Err}
use Rattle.subject_tree.specs.Trees.{Tree, Leaf, Inv, Nand}
use Rattle.subject_tree.specs.Arenas.{tree_at}
use Rattle.subject_tree.specs.Tables.{trees_of, AreTaken}
use Rattle.subject_tree.specs.declared.arena.Vertex.{Vertex}
use Rattle.genlib_expr.specs.Formula.{Formula, formula_of}
use Rattle.pattern_set.specs.Patterns.{IsPattern, is_used}
use Rattle.pattern_set.specs.declared.cells.Cell.{Cell}
use Rattle.pattern_set.specs.declared.cells.PatternGate.{PatternGate}
use Rattle.pattern_set.specs.declared.cells.PatternFault.{PatternFault}
use Rattle.pattern_set.specs.declared.cells.PatternFault.TheVariants.{NoInverter, NoNand}

-- numbers list all trees of a kind, no other, and each once
pub record Lists (vertices : List Vertex) (numbers : List ℕ) (P : Tree ℕ → Type 0) : Type 0 where
  pub taken : AreTaken vertices numbers
  pub once : IsDistinct nat_eq numbers
  pub listed : AllByRecursion P (trees_of vertices numbers)
  pub all : (t : Tree ℕ) → P t → Contains (trees_of vertices numbers) t

-- a tree is a pattern of a formula whose gate is used
abbrev pub IsUsedPattern : Formula → Tree ℕ → Type 0
IsUsedPattern e t = (is_used e ≡ true) × IsPattern e t

-- a gate has the area and the pins of a cell, and lists the patterns of its formula, if it is used
pub record IsGateOf (vertices : List Vertex) (cell : Cell) (gate : PatternGate) : Type 0 where
  pub area : gate.area ≡ cell.area
  pub pins : gate.pins ≡ cell.pins
  pub patterns : Lists vertices gate.patterns (IsUsedPattern (formula_of cell.expr.now))

-- gates are those of cells, in order
abbrev pub AreGatesOf : List Vertex → List Cell → List PatternGate → Type 0
AreGatesOf vertices cells gates = AllZip (IsGateOf vertices) cells gates

-- whether a tree is a leaf
abbrev pub is_leaf : Tree ℕ → Bool
is_leaf (Leaf place) = true
is_leaf (Inv t) = false
is_leaf (Nand t u) = false

-- whether a tree is an inverter over a leaf
abbrev pub is_inverter : Tree ℕ → Bool
is_inverter (Leaf place) = false
is_inverter (Inv t) = is_leaf t
is_inverter (Nand t u) = false

-- whether two trees are different leaves
abbrev pub are_leaves : Tree ℕ → Tree ℕ → Bool
are_leaves (Leaf place) (Leaf other) = not (place == other)
are_leaves (Leaf place) (Inv u) = false
are_leaves (Leaf place) (Nand u v) = false
are_leaves (Inv t) u = false
are_leaves (Nand s t) u = false

-- whether a tree is a NAND over two different leaves
abbrev pub is_nand : Tree ℕ → Bool
is_nand (Leaf place) = false
is_nand (Inv t) = false
is_nand (Nand t u) = are_leaves t u

-- whether a gate lists a tree that passes a test
abbrev pub lists_some : (Tree ℕ → Bool) → List Vertex → PatternGate → Bool
lists_some test vertices gate = list_any (λ n. test (tree_at vertices n)) gate.patterns

-- whether some gate does
abbrev pub has_some : (Tree ℕ → Bool) → List Vertex → List PatternGate → Bool
has_some test vertices gates = list_any (lists_some test vertices) gates

-- what a library lacks, by whether it has an inverter and a NAND
abbrev pub lack_of : Bool → Bool → Result (Unit {0}) PatternFault
lack_of false nand = Err NoInverter
lack_of true false = Err NoNand
lack_of true true = Ok tt

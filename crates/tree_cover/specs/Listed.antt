-- What the gates of a library give for covers: cells, and gates with their patterns.
-- Source: the genlib format of SIS (UCB/ERL M92/41): a gate has an area, pins, and an expression
-- over them; Keutzer, "DAGON: Technology binding and local optimization by DAG matching" (24th
-- Design Automation Conference, 1987): a gate occurs in a tree as the patterns of its function.
use Rattle.std.specs.Prelude.{◌≡◌, ℕ, false, List, length, slice_get}
use Rattle.std.specs.List.{AllZip}
use Rattle.std.specs.Option.{option_map_or}
use Rattle.subject_tree.specs.declared.arena.Vertex.{Vertex}
use Rattle.genlib_expr.specs.Formula.{Formula, constant, formula_of}
use Rattle.genlib_format.specs.declared.gate.Gate.{Gate}
use Rattle.pattern_set.specs.declared.cells.Cell.{Cell}
use Rattle.pattern_set.specs.declared.cells.PatternGate.{PatternGate}
use Rattle.pattern_set.specs.Cells.{Lists, IsUsedPattern}

-- a cell has the area of a gate, in millionths, its expression, and as many pins
pub record IsCellOf (gate : Gate) (cell : Cell) : Type 0 where
  pub area : cell.area ≡ gate.area.0
  pub expr : cell.expr.now ≡ gate.expr
  pub pins : cell.pins ≡ length gate.pins

-- cells are those of gates, in order
abbrev pub AreCellsOf : List Gate → List Cell → Type 0
AreCellsOf gates cells = AllZip IsCellOf gates cells

-- a gate has the area of a library's gate, in millionths, and as many pins, and lists the patterns
-- of its function, if it is used
pub record HasPatterns (vertices : List Vertex) (gate : Gate) (made : PatternGate) : Type 0 where
  pub area : made.area ≡ gate.area.0
  pub pins : made.pins ≡ length gate.pins
  pub patterns : Lists vertices made.patterns (IsUsedPattern (formula_of gate.expr))

-- gates are those of a library, in order
abbrev pub HavePatterns : List Vertex → List Gate → List PatternGate → Type 0
HavePatterns vertices gates made = AllZip (HasPatterns vertices) gates made

-- the function of the gate at an index of a library
abbrev pub function_in : List Gate → ℕ → Formula
function_in gates place = option_map_or (λ (gate : Gate). formula_of gate.expr) (slice_get gates place) (constant false)

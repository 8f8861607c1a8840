-- The size of a circuit: its literals, and the limits that every circuit that is read keeps.
-- Source: De Micheli, "Synthesis and Optimization of Digital Circuits", chapter 8: literals measure
-- the size of a logic network. The limits are the project's own.
use Rattle.std.specs.Prelude.{ℕ, ◌+◌, ◌≤◌, Bool, true, false, List, length, count_by, sum_by}
use Rattle.std.specs.List.{AllByRecursion}
use Rattle.circuit_model.specs.declared.circuit.Tri.{Tri}
use Rattle.circuit_model.specs.declared.circuit.Tri.TheVariants.{Zero, One, Free}
use Rattle.circuit_model.specs.declared.circuit.Table.{Table}
use Rattle.circuit_model.specs.declared.circuit.Circuit.{Circuit}
use Rattle.sis_base.specs.declared.limits.TheConstants.{MAX_INPUTS, MAX_NODES, MAX_ROWS}

-- a literal is a character of a row that is not a dash
abbrev pub is_literal : Tri → Bool
is_literal Zero = true
is_literal One = true
is_literal Free = false

-- the number of literals of a row
unfoldable pub literals_of_row : List Tri → ℕ
literals_of_row row = count_by is_literal row

-- the number of literals of all rows of a table
unfoldable pub literals_of_table : Table → ℕ
literals_of_table table = sum_by literals_of_row table.rows

-- the number of literals of the circuit's own tables; those of the don't-care part do not count
unfoldable pub literals_of : Circuit → ℕ
literals_of circuit = sum_by literals_of_table circuit.tables

-- a table of at most `MAX_ROWS` rows over at most `MAX_INPUTS` inputs, each row of at most
-- `MAX_INPUTS` characters
pub record IsSmallTable (table : Table) : Type 0 where
  pub rows : length table.rows ≤ MAX_ROWS
  pub inputs : length table.inputs ≤ MAX_INPUTS
  pub widths : AllByRecursion (λ (row : List Tri). length row ≤ MAX_INPUTS) table.rows

-- at most `MAX_NODES` tables and latches, including those of the don't-care part, and each table
-- small
pub record IsWithinLimits (circuit : Circuit) : Type 0 where
  pub nodes : length circuit.tables + length circuit.latches + length circuit.dont_care ≤ MAX_NODES
  pub tables : AllByRecursion IsSmallTable circuit.tables
  pub dont_care : AllByRecursion IsSmallTable circuit.dont_care

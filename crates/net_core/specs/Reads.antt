-- Queries about the tables of a network: the fanouts of a signal, the elimination value of a table,
-- and how many tables there are. Source: Brayton, Rudell, Sangiovanni-Vincentelli and Wang, "MIS: A
-- Multiple-Level Logic Optimization System" (1987), and De Micheli, "Synthesis and Optimization of
-- Digital Circuits", chapter 8: eliminating a node of l literals that is used n times adds n * l -
-- n - l literals.
use Rattle.std.specs.Prelude.{ℕ, ◌+◌, ◌*◌, ◌<◌, ◌^◌, ℤ, pos, ◌-ℤ◌, Option, Some, None, List, map, filter, length, position, count_by, sum_by, slice_index_or, bytes_eq}
use Rattle.std.specs.List.{AllByRecursion}
use Rattle.circuit_model.specs.Names.{has}
use Rattle.circuit_model.specs.Values.{driver}
use Rattle.circuit_model.specs.Counts.{is_literal, literals_of_table}
use Rattle.circuit_model.specs.declared.circuit.Tri.{Tri}
use Rattle.circuit_model.specs.declared.circuit.Tri.TheVariants.{Free}
use Rattle.circuit_model.specs.declared.circuit.Table.{Table}
use Rattle.circuit_model.specs.declared.circuit.Circuit.{Circuit}
use Rattle.net_core.specs.declared.network.Sizes.{Sizes}

-- the names of the tables that read a signal, in table order
unfoldable pub readers_of : List Table → List ℕ → List (List ℕ)
readers_of tables name = map (λ (table : Table). table.output) (filter (λ (table : Table). has table.inputs name) tables)

-- the number of rows with a literal in a column
unfoldable pub rows_with : ℕ → List (List Tri) → ℕ
rows_with place rows = count_by (λ (row : List Tri). is_literal (slice_index_or row place Free)) rows

-- the number of rows with a literal in a signal's column; 0 if it has none
abbrev pub rows_at : Option ℕ → List (List Tri) → ℕ
rows_at None rows = 0
rows_at (Some place) rows = rows_with place rows

-- the number of rows of a table with a literal of a signal
unfoldable pub uses_in : List ℕ → Table → ℕ
uses_in name table = rows_at (position (bytes_eq name) table.inputs) table.rows

-- the uses of a signal: the rows of all tables with a literal of it
unfoldable pub uses_of : List Table → List ℕ → ℕ
uses_of tables name = sum_by (uses_in name) tables

-- the number of a table's literals, 0 if there is no table
abbrev pub literals_in : Option Table → ℕ
literals_in None = 0
literals_in (Some table) = literals_of_table table

-- the number of literals of the table of a signal
unfoldable pub own_literals : List Table → List ℕ → ℕ
own_literals tables name = literals_in (driver tables name)

-- the elimination value: n * l - n - l, for n uses and l literals
unfoldable pub value_of : List Table → List ℕ → ℤ
value_of tables name =
    pos (uses_of tables name * own_literals tables name) -ℤ pos (uses_of tables name) -ℤ pos (own_literals tables name)

-- fewer than 2^33 rows and fewer than 2^30 inputs, and so fewer than 2^63 literals
pub record IsBounded (table : Table) : Type 0 where
  pub rows : length table.rows < 2 ^ 33
  pub inputs : length table.inputs < 2 ^ 30

-- fewer than 2^29 tables and latches, each table within its bounds, so that all sums are far below
-- what fits. Nothing is asked of the circuit's own inputs: a table reads only some of them.
pub record HasBounds (circuit : Circuit) : Type 0 where
  pub nodes : length circuit.tables + length circuit.latches < 2 ^ 29
  pub tables : AllByRecursion IsBounded circuit.tables

-- the numbers of inputs, outputs, tables, latches and tables of the don't-care part
unfoldable pub sizes_of : Circuit → Sizes
sizes_of circuit = record {
  inputs = length circuit.inputs;
  outputs = length circuit.outputs;
  tables = length circuit.tables;
  latches = length circuit.latches;
  dont_cares = length circuit.dont_care;
}

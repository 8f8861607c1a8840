-- Tables at indices divided by a cover, whose own table is the last. No public clause needs these
-- definitions.
-- Source: De Micheli, "Synthesis and Optimization of Digital Circuits", chapter 8 (a logic network
-- as a set of nodes, changed one after the other).
use Rattle.std.specs.Prelude.{◌≡◌, ℕ, ◌<◌, true, Option, Some, List, [], ◌∷◌, slice_set}
use Rattle.std.specs.Option.{option_map}
use Rattle.circuit_model.specs.Names.{all_different}
use Rattle.circuit_model.specs.declared.circuit.Table.{Table}
use Rattle.cover_names.specs.Literals.{NamedCover}
use Rattle.net_core.specs.Fresh.{IsNewName, node_count}
use Rattle.net_core.specs.Reads.{IsBounded}
use Rattle.net_core.specs.Tables.{named, IsOverInputs}
use Rattle.net_core.specs.declared.table.CoverTable.{CoverTable}
use Rattle.net_work.specs.Placed.{Placed, circuit_of, table_at, with_last}
use Rattle.alg_tables.specs.Dividing.{divided, cover_table}
use Rattle.sis_base.specs.declared.limits.TheConstants.{MAX_NODES}

-- a slot after its table is divided
abbrev pub divided_slot : List ℕ → NamedCover → Option Table → Option Table
divided_slot name cover slot = option_map (divided name true cover) slot

-- slots after those at some indices are changed, one after the other
abbrev pub turned_at : (Option Table → Option Table) → List ℕ → List (Option Table) → List (Option Table)
turned_at turn [] slots = slots
turned_at turn (place ∷ places) slots = turned_at turn places (slice_set slots place (turn (table_at slots place)))

-- the network after the tables at some indices are divided
abbrev pub with_divided : List ℕ → NamedCover → List ℕ → Placed → Placed
with_divided name cover places placed = record placed { slots = turned_at (divided_slot name cover) places placed.slots }

-- the table that was made is a given one, divided
pub record IsMade {R : Type 0} (name : List ℕ) (cover : NamedCover) (table : Table) (made : CoverTable R) : Type 0 where
  pub over : IsOverInputs made
  pub once : all_different made.inputs ≡ true
  pub is : named table.output made ≡ divided name true cover table
  pub bounded : IsBounded (divided name true cover table)

-- the table that was made is that at an index, divided
pub record IsMadeAt {R : Type 0} (name : List ℕ) (cover : NamedCover) (slots : List (Option Table)) (place : ℕ) (made : CoverTable R) : Type 0 where
  pub table : Table
  pub there : table_at slots place ≡ Some table
  pub made_of : IsMade name cover table made

-- the table of a cover is the last, under the new name
pub record IsAdded (cover : NamedCover) (name : List ℕ) (before now : Placed) : Type 0 where
  pub free : IsNewName (circuit_of before) name
  pub room : node_count (circuit_of before) < MAX_NODES
  pub is : now ≡ with_last before (cover_table name cover)
  pub bounded : IsBounded (cover_table name cover)

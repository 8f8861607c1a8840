-- Working networks: circuits whose tables are in slots. A table keeps its slot while others are
-- changed, removed or added. Source: De Micheli, "Synthesis and Optimization of Digital Circuits",
-- chapter 8 (a logic network as a set of nodes, changed one after the other); Brayton, Rudell,
-- Sangiovanni-Vincentelli and Wang, "MIS: A Multiple-Level Logic Optimization System" (1987).
use Rattle.std.specs.Prelude.{◌≡◌, ℕ, ◌<◌, ◌≤◌, Result, Ok, Err, Option, Some, None, List, [], ◌∷◌, ◌++◌, slice_get, slice_set}
use Rattle.std.specs.Option.{option_map}
use Rattle.circuit_model.specs.declared.circuit.Table.{Table}
use Rattle.circuit_model.specs.declared.circuit.Circuit.{Circuit}
use Rattle.circuit_laws.specs.Edits.{with_tables}
use Rattle.net_core.specs.Fresh.{IsNewName, node_count}
use Rattle.net_core.specs.Tables.{named}
use Rattle.net_core.specs.declared.table.CoverTable.{CoverTable}
use Rattle.net_core.specs.declared.adding.AddFault.{AddFault}
use Rattle.net_core.specs.declared.adding.AddFault.TheVariants.{NodeLimit, Memory}
use Rattle.sis_base.specs.declared.limits.TheConstants.{MAX_NODES}

-- a circuit whose own tables are ignored, and the tables in their slots; the slot of a removed
-- table stays empty
pub record Placed : Type 0 where
  pub frame : Circuit
  pub slots : List (Option Table)

-- the tables in slots, in order
unfoldable pub standing : List (Option Table) → List Table
standing [] = []
standing (None ∷ slots) = standing slots
standing (Some table ∷ slots) = table ∷ standing slots

-- the circuit of the tables in slots
abbrev pub circuit_of : Placed → Circuit
circuit_of placed = with_tables placed.frame (standing placed.slots)

-- the table of a slot, if the slot exists and has one
abbrev pub joined : Option (Option Table) → Option Table
joined None = None
joined (Some slot) = slot

-- the table at an index
abbrev pub table_at : List (Option Table) → ℕ → Option Table
table_at slots place = joined (slice_get slots place)

-- the name of the table at an index
abbrev pub name_at : List (Option Table) → ℕ → Option (List ℕ)
name_at slots place = option_map (λ (table : Table). table.output) (table_at slots place)

-- the network with another slot at an index
abbrev pub with_slot : Placed → ℕ → Option Table → Placed
with_slot placed place slot = record placed { slots = slice_set placed.slots place slot }

-- the network with a table appended
abbrev pub with_last : Placed → Table → Placed
with_last placed table = record placed { slots = placed.slots ++ Some table ∷ [] }

-- the results of adding a table, and the network after each; if memory runs out, the network may be
-- any
abbrev pub AddsLast : {R : Type 0} → Placed → CoverTable R → Placed → Result (List ℕ) AddFault → Type 0
AddsLast old table new (Ok name) = (node_count (circuit_of old) < MAX_NODES) × IsNewName (circuit_of old) name × (new ≡ with_last old (named name table))
AddsLast old table new (Err NodeLimit) = (MAX_NODES ≤ node_count (circuit_of old)) × (new ≡ old)
AddsLast old table new (Err Memory) = Unit {0}

-- A table is composed into all its fanouts, each at its index. No public clause needs these
-- definitions.
-- Source: Brayton, Rudell, Sangiovanni-Vincentelli and Wang, "MIS: A Multiple-Level Logic
-- Optimization System" (1987), and the SIS report (UCB/ERL M92/41), `eliminate`; De Micheli,
-- "Synthesis and Optimization of Digital Circuits", chapter 8 (elimination).
use Rattle.std.specs.Prelude.{◌≡◌, ℕ, true, Option, Some, List, is_some, map}
use Rattle.std.specs.List.{AllByRecursion}
use Rattle.std.specs.Option.{option_map}
use Rattle.circuit_model.specs.Names.{has, all_different}
use Rattle.circuit_model.specs.declared.circuit.Table.{Table}
use Rattle.net_readers.specs.Fanouts.{is_in}
use Rattle.net_core.specs.Tables.{named, IsOverInputs}
use Rattle.net_work.specs.Placed.{Placed, table_at}
use Rattle.net_work.specs.Slots.{inputs_at}
use Rattle.alg_tables.specs.Taking.{composed_into}
use Rattle.net_elim.specs.declared.putting.Made.{Made}

-- the tables by index after a table was composed into all its fanouts
abbrev pub slots_taken : Table → List (Option Table) → List (Option Table)
slots_taken inner slots = map (option_map (composed_into inner)) slots

-- the network after a table was composed into all its fanouts
abbrev pub with_put : Table → Placed → Placed
with_put inner placed = record placed { slots = slots_taken inner placed.slots }

-- what was made for an index is what the table there becomes
pub record IsMade {R : Type 0} (inner : Table) (slots : List (Option Table)) (made : Made R) : Type 0 where
  pub there : is_some (table_at slots made.place) ≡ true
  pub is : (outer : Table) → table_at slots made.place ≡ Some outer → named outer.output made.table ≡ composed_into inner outer

-- a table may be set at an index of a network
pub record IsFit {R : Type 0} (made : Made R) : Type 0 where
  pub over : IsOverInputs made.table
  pub once : all_different made.table.inputs ≡ true

-- the indices for which something was made
abbrev pub places_made : {R : Type 0} → List (Made R) → List ℕ
places_made {R} made = map (λ (one : Made R). one.place) made

-- what was made for all fanouts of a table
pub record AreMade {R : Type 0} (inner : Table) (slots : List (Option Table)) (made : List (Made R)) : Type 0 where
  pub each : AllByRecursion (IsMade inner slots) made
  pub readers : (at : ℕ) → has (inputs_at slots at) inner.output ≡ true → is_in (places_made made) at ≡ true

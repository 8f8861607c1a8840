-- The tables at indices while a network is collapsed: first each is composed into its fanouts, in
-- the order of their indices; then the inner ones are removed. No public clause needs these
-- definitions.
-- Source: the SIS report (UCB/ERL M92/41), `collapse`; De Micheli, "Synthesis and Optimization of
-- Digital Circuits", chapter 8 (elimination of vertices, one after the other).
use Rattle.std.specs.Prelude.{◌≡◌, ℕ, true, if◌then◌else◌, Option, Some, None, List, ltb}
use Rattle.std.specs.Option.{option_map}
use Rattle.circuit_model.specs.declared.circuit.Table.{Table}
use Rattle.circuit_model.specs.declared.circuit.Circuit.{Circuit}
use Rattle.circuit_laws.specs.Edits.{is_root}
use Rattle.net_readers.specs.Fanouts.{is_in}
use Rattle.alg_tables.specs.Taking.{composed_into, take_refusal}
use Rattle.net_work.specs.Placed.{Placed, table_at}
use Rattle.sis_base.specs.declared.limits.TheConstants.{MAX_ROWS}

-- the table at an index was composed into those at some indices, of which none refused
pub record IsPut (inner : Table) (done : List ℕ) (before now : Placed) : Type 0 where
  pub frame : now.frame ≡ before.frame
  pub tables : (at : ℕ) → table_at now.slots at ≡ (if is_in done at then option_map (composed_into inner) (table_at before.slots at) else table_at before.slots at)
  pub within : (at : ℕ) (outer : Table) → is_in done at ≡ true → table_at before.slots at ≡ Some outer → take_refusal MAX_ROWS MAX_ROWS inner outer ≡ None

-- the table was composed into all tables; those that do not read it stay as they are
pub record IsPutInAll (inner : Table) (before now : Placed) : Type 0 where
  pub frame : now.frame ≡ before.frame
  pub tables : (at : ℕ) → table_at now.slots at ≡ option_map (composed_into inner) (table_at before.slots at)

-- a table stays if it drives an output or a latch input
abbrev pub rooted : Circuit → Option Table → Option Table
rooted frame None = None
rooted frame (Some table) = if is_root frame table.output then Some table else None

-- below an index the inner tables are removed
pub record IsCut (place : ℕ) (before now : Placed) : Type 0 where
  pub frame : now.frame ≡ before.frame
  pub tables : (at : ℕ) → table_at now.slots at ≡ (if ltb at place then rooted before.frame (table_at before.slots at) else table_at before.slots at)

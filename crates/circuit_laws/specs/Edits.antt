-- Edits of a circuit: a table is replaced, added or removed; a latch is removed or becomes a table.
-- Source: De Micheli, "Synthesis and Optimization of Digital Circuits", chapter 8 (transformations
-- of logic networks: local ones change one table; elimination and extraction remove and add
-- tables); BLIF appendix of the SIS report (UCB/ERL M92/41) for the parts of a circuit.
use Rattle.std.specs.Prelude.{ℕ, Bool, true, false, not, ◌&&◌, ◌||◌, Option, None, List, [], ◌∷◌, ◌++◌, filter, bytes_eq, if◌then◌else◌}
use Rattle.circuit_model.specs.Names.{has}
use Rattle.circuit_model.specs.Soundness.{outputs_of, latch_inputs, table_inputs}
use Rattle.circuit_model.specs.declared.circuit.Tri.{Tri}
use Rattle.circuit_model.specs.declared.circuit.Table.{Table}
use Rattle.circuit_model.specs.declared.circuit.Latch.{Latch}
use Rattle.circuit_model.specs.declared.circuit.Timing.{Timing}
use Rattle.circuit_model.specs.declared.circuit.Circuit.{Circuit}

-- the tables with the first one that drives the new table's signal replaced by the new table
unfoldable pub replaced : List Table → Table → List Table
replaced [] new = []
replaced (table ∷ tables) new = if bytes_eq new.output table.output then new ∷ tables else table ∷ replaced tables new

-- the tables whose signals pass a test
unfoldable pub tables_kept : (List ℕ → Bool) → List Table → List Table
tables_kept test tables = filter (λ (table : Table). test table.output) tables

-- the latches whose signals pass a test
unfoldable pub latches_kept : (List ℕ → Bool) → List Latch → List Latch
latches_kept test latches = filter (λ (latch : Latch). test latch.output) latches

-- whether a name differs from another one
abbrev pub is_other : List ℕ → List ℕ → Bool
is_other name other = not (bytes_eq name other)

-- the tables that drive other signals
abbrev pub without : List Table → List ℕ → List Table
without tables name = tables_kept (is_other name) tables

-- the timing, which a circuit has only where it has a latch
abbrev pub timing_with : List Latch → Option Timing → Option Timing
timing_with [] timing = None
timing_with (latch ∷ latches) timing = timing

-- a circuit with other tables
abbrev pub with_tables : Circuit → List Table → Circuit
with_tables circuit tables = record circuit { tables = tables }

-- the circuit with the new table at the position of the table of its signal
unfoldable pub with_replaced : Circuit → Table → Circuit
with_replaced circuit new = with_tables circuit (replaced circuit.tables new)

-- the circuit with the new table last
unfoldable pub with_added : Circuit → Table → Circuit
with_added circuit new = with_tables circuit (circuit.tables ++ new ∷ [])

-- the circuit without the tables and latches whose signals fail the test; the timing is removed
-- with the last latch
unfoldable pub with_kept : Circuit → (List ℕ → Bool) → Circuit
with_kept circuit test = record circuit {
  tables = tables_kept test circuit.tables;
  latches = latches_kept test circuit.latches;
  timing = timing_with (latches_kept test circuit.latches) circuit.timing;
}

-- the circuit without the table or latch that drives the signal; the timing is removed with the
-- last latch
abbrev pub with_removed : Circuit → List ℕ → Circuit
with_removed circuit name = with_kept circuit (is_other name)

-- the rows of a constant: one row without characters for 1, none for 0
abbrev pub constant_rows : Bool → List (List Tri)
constant_rows true = [] ∷ []
constant_rows false = []

-- the table without inputs that gives a signal a constant bit
abbrev pub constant_table : List ℕ → Bool → Table
constant_table name bit = record { inputs = []; output = name; rows = constant_rows bit; phase = true }

-- the circuit whose latch of that name is replaced by the constant table of its name, which comes
-- last
unfoldable pub with_fixed : Circuit → List ℕ → Bool → Circuit
with_fixed circuit name bit = with_added (with_removed circuit name) (constant_table name bit)

-- whether a table reads the signal. A table of the don't-care part counts too: there a name means
-- the signal only if the part has no table of that name.
unfoldable pub is_read : Circuit → List ℕ → Bool
is_read circuit name =
    has (table_inputs circuit.tables) name
    || (not (has (outputs_of circuit.dont_care) name) && has (table_inputs circuit.dont_care) name)

-- whether the signal is an output or a latch's input
unfoldable pub is_root : Circuit → List ℕ → Bool
is_root circuit name = has circuit.outputs name || has (latch_inputs circuit) name

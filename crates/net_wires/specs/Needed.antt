-- What a circuit needs: the outputs, the latches that the don't-care part reads, and all that the
-- tables and latches that are needed read. Source: the SIS manual (UCB/ERL M92/41), `sweep`: nodes
-- that do not fan out to outputs or latches that matter are removed.
use Rattle.std.specs.Prelude.{ℕ, zero, suc, ◌+◌, Bool, not, ◌&&◌, ◌||◌, List, length, bytes_eq}
use Rattle.std.specs.List.{list_any, list_all}
use Rattle.circuit_model.specs.Names.{has}
use Rattle.circuit_model.specs.Soundness.{outputs_of, table_inputs}
use Rattle.circuit_model.specs.declared.circuit.Table.{Table}
use Rattle.circuit_model.specs.declared.circuit.Latch.{Latch}
use Rattle.circuit_model.specs.declared.circuit.Circuit.{Circuit}
use Rattle.circuit_laws.specs.Edits.{with_kept}

-- whether the don't-care part reads a leaf: there a name means the leaf only if the part has no
-- table of that name
unfoldable pub dont_care_reads : Circuit → List ℕ → Bool
dont_care_reads circuit name = not (has (outputs_of circuit.dont_care) name) && has (table_inputs circuit.dont_care) name

-- whether a signal is needed, within a number of steps from the outputs and from what the
-- don't-care part reads
unfoldable pub needed_within : Circuit → ℕ → List ℕ → Bool
needed_within circuit zero name = has circuit.outputs name || dont_care_reads circuit name
needed_within circuit (suc steps) name =
    needed_within circuit steps name
    || list_any (λ (table : Table). needed_within circuit steps table.output && has table.inputs name) circuit.tables
    || list_any (λ (latch : Latch). needed_within circuit steps latch.output && bytes_eq latch.input name) circuit.latches

-- whether a signal is needed; as many steps as there are tables and latches suffice
unfoldable pub is_needed : Circuit → List ℕ → Bool
is_needed circuit name = needed_within circuit (length circuit.tables + length circuit.latches) name

-- whether each table and each latch is needed
abbrev pub all_needed : Circuit → Bool
all_needed circuit =
    list_all (λ (table : Table). is_needed circuit table.output) circuit.tables
    && list_all (λ (latch : Latch). is_needed circuit latch.output) circuit.latches

-- the circuit without what is not needed
unfoldable pub only_needed : Circuit → Circuit
only_needed circuit = with_kept circuit (is_needed circuit)

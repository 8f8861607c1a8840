use Rattle.std.proofs.Common.{◌≡◌, false, take}
use Rattle.circuit_model.specs.Names.{has}
use Rattle.circuit_model.specs.Soundness.{table_inputs}
use Rattle.library_trials.proofs.needed.is_table_input.Given as goal

abbrev pub invariant-loop-table : goal.invariant-loop-table
invariant-loop-table l = has (table_inputs (take l.table-index l.tables)) l.name ≡ false

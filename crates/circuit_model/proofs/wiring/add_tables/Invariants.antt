use Rattle.std.proofs.Common.{◌≡◌, ◌++◌, take}
use Rattle.circuit_model.specs.Soundness.{outputs_of}
use Rattle.circuit_model.proofs.wiring.add_tables.Given as goal

abbrev pub invariant-loop-table : goal.invariant-loop-table
invariant-loop-table l = l.names.items ≡ l.fn.names.items ++ outputs_of (take l.table-index l.tables)

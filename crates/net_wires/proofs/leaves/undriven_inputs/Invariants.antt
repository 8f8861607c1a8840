use Rattle.std.proofs.Common.{◌≡◌, ℕ, ◌&&◌, not, List, take}
use Rattle.circuit_model.specs.Names.{has}
use Rattle.circuit_model.specs.Soundness.{table_inputs}
use Rattle.net_wires.proofs.leaves.undriven_inputs.Given as goal

abbrev pub invariant-loop-table : goal.invariant-loop-table
invariant-loop-table l = (name : List ℕ) → has l.names.it.keys name ≡ (not (has l.driven.keys name) && has (table_inputs (take l.table-index l.tables)) name)

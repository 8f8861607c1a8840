use Rattle.std.proofs.Common.{◌≡◌, ℕ, List, take}
use Rattle.circuit_model.specs.Names.{has}
use Rattle.circuit_model.specs.Soundness.{outputs_of}
use Rattle.net_wires.proofs.leaves.driven_names.Given as goal

abbrev pub invariant-loop-table : goal.invariant-loop-table
invariant-loop-table l = (name : List ℕ) → has l.names.keys name ≡ has (outputs_of (take l.table-index l.tables)) name

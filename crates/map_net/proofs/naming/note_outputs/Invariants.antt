use Rattle.std.proofs.Common.{◌≡◌, ◌||◌, ℕ, List, take}
use Rattle.circuit_model.specs.Names.{has}
use Rattle.circuit_model.specs.Soundness.{outputs_of}
use Rattle.map_net.proofs.naming.note_outputs.Given as goal

abbrev pub invariant-loop-table : goal.invariant-loop-table
invariant-loop-table l = (other : List ℕ)
    → has l.names.keys other ≡ (has l.fn.names.keys other || has (outputs_of (take l.table-index
    l.tables)) other)

use Rattle.std.proofs.Common.{◌≡◌, ℕ, ◌≤◌, ◌||◌, ◌&&◌, List, length, drop}
use Rattle.circuit_model.specs.Names.{has}
use Rattle.circuit_model.specs.declared.circuit.Table.{Table}
use Rattle.subject_tree.specs.Tables.{is_constant}
use Rattle.subject_tree.proofs.Standing.{any_from}
use Rattle.subject_tree.proofs.judging.add_constant_inputs.Given as goal

abbrev pub invariant-loop-place : goal.invariant-loop-place
invariant-loop-place l = record {
  within : l.place ≤ length l.tables;
  names : (signal : List ℕ) → has l.names.keys signal ≡ (has l.fn.names.keys signal || any_from (λ (table : Table). is_constant table && has table.inputs signal) (drop l.place l.tables));
}

abbrev pub decreases-loop-place : goal.decreases-loop-place
decreases-loop-place l = l.place

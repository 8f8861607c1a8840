use Rattle.std.proofs.Common.{◌≡◌, ℕ, ◌≤◌, ◌||◌, List, length, drop, bytes_eq}
use Rattle.circuit_model.specs.Names.{has}
use Rattle.circuit_model.specs.declared.circuit.Latch.{Latch}
use Rattle.subject_tree.proofs.Standing.{any_from}
use Rattle.subject_tree.proofs.judging.add_latch_inputs.Given as goal

abbrev pub invariant-loop-place : goal.invariant-loop-place
invariant-loop-place l = record {
  within : l.place ≤ length l.latches;
  names : (signal : List ℕ) → has l.names.keys signal ≡ (has l.fn.names.keys signal || any_from (λ (latch : Latch). bytes_eq signal latch.input) (drop l.place l.latches));
}

abbrev pub decreases-loop-place : goal.decreases-loop-place
decreases-loop-place l = l.place

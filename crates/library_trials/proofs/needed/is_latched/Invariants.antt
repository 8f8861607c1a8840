use Rattle.std.proofs.Common.{◌≡◌, false, take, map}
use Rattle.circuit_model.specs.Names.{has}
use Rattle.circuit_model.specs.declared.circuit.Latch.{Latch}
use Rattle.library_trials.proofs.needed.is_latched.Given as goal

abbrev pub invariant-loop-latch : goal.invariant-loop-latch
invariant-loop-latch l = has (map (λ (latch : Latch). latch.input) (take l.latch-index l.latches)) l.name ≡ false

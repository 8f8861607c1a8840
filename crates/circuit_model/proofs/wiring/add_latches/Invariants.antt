use Rattle.std.proofs.Common.{◌≡◌, ◌++◌, map, take}
use Rattle.circuit_model.specs.declared.circuit.Latch.{Latch}
use Rattle.circuit_model.proofs.wiring.add_latches.Given as goal

abbrev pub invariant-loop-latch : goal.invariant-loop-latch
invariant-loop-latch l = l.names.items ≡ l.fn.names.items ++ map (λ (latch : Latch). latch.output) (take l.latch-index l.latches)

use Rattle.std.proofs.Common.{◌≡◌, ◌++◌, map, take}
use Rattle.circuit_model.specs.declared.circuit.Latch.{Latch}
use Rattle.blif_lines.proofs.file_fault.add_states.Given as goal

abbrev pub invariant-loop-latch : goal.invariant-loop-latch
invariant-loop-latch l = l.names ≡ l.fn.names ++ map (λ (latch : Latch). latch.output) (take l.latch-index l.latches)

use Rattle.std.proofs.Common.{◌≡◌, ◌||◌, ℕ, List, map, take}
use Rattle.circuit_model.specs.Names.{has}
use Rattle.circuit_model.specs.declared.circuit.Latch.{Latch}
use Rattle.net_core.proofs.reserved.note_latch_outputs.Given as goal

abbrev pub invariant-loop-latch : goal.invariant-loop-latch
invariant-loop-latch l = (other : List ℕ) → has l.names.keys other ≡ (has l.fn.names.keys other || has (map (λ (latch : Latch). latch.output) (take l.latch-index l.latches)) other)

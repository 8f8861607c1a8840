use Rattle.std.proofs.Common.{◌≡◌, Some, map, take}
use Rattle.net_sweep.proofs.tracking.slots_of.Given as goal

abbrev pub invariant-loop-latch : goal.invariant-loop-latch
invariant-loop-latch l = l.slots.items ≡ map Some (take l.latch-index l.latches)

use Rattle.std.proofs.Common.{◌≡◌, take}
use Rattle.net_sweep.specs.Latches.{left_at}
use Rattle.net_sweep.proofs.tracking.latches_left.Given as goal

abbrev pub invariant-loop-slot : goal.invariant-loop-slot
invariant-loop-slot l = l.made.items ≡ left_at (take l.slot-index l.slots)

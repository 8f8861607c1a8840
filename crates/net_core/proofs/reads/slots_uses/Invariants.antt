use Rattle.std.proofs.Common.{◌≡◌, ◌≤◌, ◌*◌, ◌^◌, length, take}
use Rattle.std.specs.List.{sum_by}
use Rattle.net_core.specs.Places.{present}
use Rattle.net_core.specs.Reads.{uses_in}
use Rattle.net_core.proofs.reads.slots_uses.Given as goal

abbrev pub invariant-loop-slot : goal.invariant-loop-slot
invariant-loop-slot g l = (l.total ≡ sum_by (uses_in l.name) (present (take l.slot-index l.slots))) × (l.total ≤ length (present (take l.slot-index l.slots)) * 2 ^ 33)

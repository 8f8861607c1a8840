use Rattle.std.proofs.Common.{◌≡◌, ◌≤◌, length, take}
use Rattle.net_core.specs.Places.{present}
use Rattle.net_core.proofs.adding.table_count.Given as goal

abbrev pub invariant-loop-slot : goal.invariant-loop-slot
invariant-loop-slot g l = (l.count ≡ length (present (take l.slot-index l.slots))) × (l.count ≤ l.slot-index)

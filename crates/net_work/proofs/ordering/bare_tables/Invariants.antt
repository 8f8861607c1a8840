use Rattle.std.proofs.Common.{◌≡◌, map, take}
use Rattle.net_core.specs.Places.{present}
use Rattle.net_work.specs.Slots.{bare}
use Rattle.net_work.proofs.ordering.bare_tables.Given as goal

abbrev pub invariant-loop-slot : goal.invariant-loop-slot
invariant-loop-slot g l = l.made.items ≡ map bare (present (take l.slot-index l.slots))

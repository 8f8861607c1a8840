use Rattle.std.proofs.Common.{◌≡◌, take}
use Rattle.net_core.specs.Places.{present}
use Rattle.net_core.proofs.network.tables_to.Given as goal

abbrev pub invariant-loop-slot : goal.invariant-loop-slot
invariant-loop-slot g l = l.made.items ≡ present (take l.slot-index l.slots)

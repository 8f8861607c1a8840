use Rattle.std.proofs.Common.{take}
use Rattle.net_work.specs.Slots.{written_slots, AreLinked}
use Rattle.net_work.proofs.links.links_of.Given as goal

abbrev pub invariant-loop-place : goal.invariant-loop-place
invariant-loop-place g l = AreLinked l.links (written_slots (take l.place l.slots))

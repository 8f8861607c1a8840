use Rattle.std.proofs.Common.{take}
use Rattle.net_extract.specs.Known.{IsCounted}
use Rattle.net_extract.proofs.counting.count.Given as goal

abbrev pub invariant-loop-place : goal.invariant-loop-place
invariant-loop-place g l = IsCounted (take l.place l.work.slots) l.gains

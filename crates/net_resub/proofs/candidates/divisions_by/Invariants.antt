use Rattle.std.proofs.Common.{take}
use Rattle.net_resub.proofs.Visiting.{ArePairsBy}
use Rattle.net_resub.proofs.candidates.divisions_by.Given as goal

abbrev pub invariant-loop-place : goal.invariant-loop-place
invariant-loop-place g l = ArePairsBy l.by (take l.place-index l.place-items) l.divisions.items

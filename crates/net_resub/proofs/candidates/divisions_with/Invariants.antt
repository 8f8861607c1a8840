use Rattle.std.proofs.Common.{take}
use Rattle.net_resub.proofs.Visiting.{ArePairsWith}
use Rattle.net_resub.proofs.candidates.divisions_with.Given as goal

abbrev pub invariant-loop-by : goal.invariant-loop-by
invariant-loop-by g l = ArePairsWith l.work.slots l.place (take l.by-index l.by-items) l.divisions.items

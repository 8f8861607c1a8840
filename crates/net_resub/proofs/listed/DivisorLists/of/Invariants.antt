use Rattle.std.proofs.Common.{ltb}
use Rattle.net_resub.specs.Listed.{AreListed}
use Rattle.net_resub.proofs.listed.DivisorLists.of.Given as goal

abbrev pub invariant-loop-place : goal.invariant-loop-place
invariant-loop-place g l = AreListed (λ at. ltb at l.place) l.work.slots l.lists

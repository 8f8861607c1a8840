use Rattle.std.proofs.Common.{take}
use Rattle.net_elim.specs.Touching.{AreRenewed}
use Rattle.net_elim.proofs.eliminating.renew_all.Given as goal

abbrev pub invariant-loop-place : goal.invariant-loop-place
invariant-loop-place g l = AreRenewed l.threshold l.work (take l.place-index l.places) l.fn.waiting l.waiting

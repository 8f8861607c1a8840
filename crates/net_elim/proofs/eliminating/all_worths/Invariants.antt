use Rattle.net_elim.proofs.Steps.{AreBegun}
use Rattle.net_elim.proofs.eliminating.all_worths.Given as goal

abbrev pub invariant-loop-place : goal.invariant-loop-place
invariant-loop-place g l = AreBegun l.threshold l.work l.place l.waiting

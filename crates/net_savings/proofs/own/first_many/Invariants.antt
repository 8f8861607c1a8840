use Rattle.net_savings.proofs.Unlisted.{AreListable}
use Rattle.net_savings.proofs.own.first_many.Given as goal

abbrev pub invariant-loop-place : goal.invariant-loop-place
invariant-loop-place g l = AreListable l.rule l.work.slots l.place

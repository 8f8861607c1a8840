use Rattle.std.proofs.Common.{◌≡◌, length}
use Rattle.net_elim.specs.Waiting.{AreWaiting}
use Rattle.net_elim.proofs.eliminating.take_step.Given as goal

abbrev pub invariant-loop-place : goal.invariant-loop-place
invariant-loop-place g l = record {
  same : l.work ≡ l.fn.work;
  waiting : AreWaiting l.threshold l.rows l.work l.waiting;
}

abbrev pub decreases-loop-place : goal.decreases-loop-place
decreases-loop-place g l = length l.waiting

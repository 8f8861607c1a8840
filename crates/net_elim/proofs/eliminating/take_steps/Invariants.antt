use Rattle.std.proofs.Common.{length}
use Rattle.circuit_model.specs.Soundness.{IsSound}
use Rattle.net_elim.specs.Eliminating.{eliminate_step}
use Rattle.net_work.specs.Placed.{standing, circuit_of}
use Rattle.net_elim.specs.Waiting.{AreWaiting}
use Rattle.net_elim.proofs.Steps.{IsLed}
use Rattle.net_elim.proofs.eliminating.take_steps.Given as goal

abbrev pub invariant-loop-waiting : goal.invariant-loop-waiting
invariant-loop-waiting g l = record {
  sound : IsSound (circuit_of l.work);
  led : IsLed (eliminate_step l.threshold l.rows) (circuit_of l.fn.work) (circuit_of l.work);
  waiting : AreWaiting l.threshold l.rows l.work l.waiting;
}

abbrev pub decreases-loop-waiting : goal.decreases-loop-waiting
decreases-loop-waiting g l = length (standing l.work.slots)

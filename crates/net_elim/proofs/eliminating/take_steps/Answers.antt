use Rattle.std.proofs.Common.{ℤ, ap, subst, to_z-of_z}
use Rattle.circuit_laws.specs.Chains.{Chain}
use Rattle.net_elim.specs.Eliminating.{eliminate_step}
use Rattle.net_work.specs.Placed.{circuit_of}
use Rattle.net_elim.proofs.Steps.{next_sound, led_itself, led_more, led_done, chosen, refused}
use Rattle.net_elim.proofs.eliminating.take_steps.Goals as goal

pub loop-waiting-init : goal.loop-waiting-init
loop-waiting-init g c = record {
  sound = c.requires;
  led = led_itself _ (circuit_of c.args.work.now);
  waiting = c.in_ok-waiting.ensures c.args.rows;
}

pub loop-waiting-preserved : goal.loop-waiting-preserved
loop-waiting-preserved g c = record {
  sound = next_sound _ c.args.rows (circuit_of c.loop-waiting.work) (circuit_of c.take_step.new.work) c.loop-waiting.invariant.sound
      (chosen c.in_ok-take_step.field-0 _ (circuit_of c.take_step.new.work) c.in_ok-take_step.ensures.step c.if-branch.true);
  led = led_more _ (circuit_of c.args.work.now) (circuit_of c.loop-waiting.work) (circuit_of c.take_step.new.work) c.loop-waiting.invariant.led
      (chosen c.in_ok-take_step.field-0 _ (circuit_of c.take_step.new.work) c.in_ok-take_step.ensures.step c.if-branch.true);
  waiting = c.in_ok-take_step.ensures.waiting;
}

pub returns-clause-chain : goal.returns-clause-chain
returns-clause-chain g c =
    subst (λ (threshold : ℤ). Chain (eliminate_step threshold c.args.rows) (circuit_of c.args.work.now) (circuit_of c.take_step.new.work)) (to_z-of_z c.ranges.threshold)
    (led_done _ (circuit_of c.args.work.now) (circuit_of c.loop-waiting.work) (circuit_of c.take_step.new.work) c.loop-waiting.invariant.led
    (refused c.in_ok-take_step.field-0 _ (circuit_of c.take_step.new.work) c.in_ok-take_step.ensures.step c.if-branch.false)
    (ap circuit_of (c.in_ok-take_step.ensures.same c.if-branch.false)))

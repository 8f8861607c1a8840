use Rattle.circuit_laws.proofs.Greedy.{reached_more}
use Rattle.net_work.specs.Placed.{circuit_of}
use Rattle.net_resub.specs.Resubbed.{IsStep}
use Rattle.net_resub.proofs.resubbing.resub_all.Goals as goal

pub loop-kept-preserved : goal.loop-kept-preserved
loop-kept-preserved g c = record {
  sound = c.in_ok-resub_once.ensures.sound c.if-branch.true;
  reached = reached_more IsStep (circuit_of c.args.work.now) (circuit_of c.loop-kept.work) (circuit_of c.resub_once.new.work) c.loop-kept.invariant.reached (c.in_ok-resub_once.ensures.step c.if-branch.true);
  bounds = λ bounds. c.in_ok-resub_once.ensures.bounds c.if-branch.true (c.loop-kept.invariant.bounds bounds);
  kept = c.in_ok-resub_once.ensures.kept;
}

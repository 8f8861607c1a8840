use Rattle.std.proofs.Common.{sym, subst}
use Rattle.net_extract.specs.Known.{AreSaved}
use Rattle.net_extract.proofs.Steps.{along_begin, along_more}
use Rattle.net_extract.proofs.extracting.take_steps.Goals as goal

pub loop-known-init : goal.loop-known-init
loop-known-init g c = record { along = along_begin c.args.rule c.args.work.now c.requires; known = c.in_ok-known.ensures.gains; saved = subst (AreSaved c.args.rule c.args.work.now) (sym c.in_ok-known.ensures.savings) tt }

pub loop-known-preserved : goal.loop-known-preserved
loop-known-preserved g c = record {
  along = along_more c.args.rule c.args.work.now c.loop-known.work c.step.new.work c.loop-known.invariant.along (c.in_ok-step.ensures.taken c.if-branch.true);
  known = c.in_ok-step.ensures.known;
  saved = c.in_ok-step.ensures.saved;
}

use Rattle.std.proofs.Common.{length, arith}
use Rattle.cover_search.specs.Views.{tie_of}
use Rattle.cover_search.proofs.Tying.{constraints_next, wide_next}
use Rattle.cover_search.proofs.tied.add_ties.Goals as goal

pub loop-tie-preserved : goal.loop-tie-preserved
loop-tie-preserved g c = record {
  constraints = constraints_next tie_of (g.R.Row.literals c.args.given.now) c.args.ties.now c.loop-tie.tie-index c.tie-item.result c.args.constraints.now.items c.loop-tie.constraints.items c.push.new.self.items c.in_ok-constraint.constraint (omega arith) c.tie-item.is c.in_ok-constraint.ensures.constraint c.in_ok-push.ensures.items c.loop-tie.invariant.constraints;
  wide = wide_next tie_of (length (g.R.Row.literals c.args.given.now)) c.args.ties.now c.loop-tie.tie-index c.tie-item.result (omega arith) c.tie-item.is c.in_ok-constraint.ensures.wide c.loop-tie.invariant.wide;
}

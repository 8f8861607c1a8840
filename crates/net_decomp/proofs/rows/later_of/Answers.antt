use Rattle.std.proofs.Common.{refl}
use Rattle.net_decomp.proofs.Partly.{later_more, later_ended}
use Rattle.net_decomp.proofs.rows.later_of.Goals as goal

pub loop-literal-preserved : goal.loop-literal-preserved
loop-literal-preserved c =
    later_more c.args.literals.now c.loop-literal.made.items c.push.new.self.items _ c.loop-literal.literal-index c.loop-literal.left c.left_behind-left.result _ c.past_left.result
    c.loop-literal-test.true refl c.past_left.ensures c.left_behind-left.ensures c.in_ok-push.ensures.items c.loop-literal.invariant

pub returns : goal.returns
returns c = later_ended c.args.literals.now c.loop-literal.made.items _ c.loop-literal.literal-index c.loop-literal.left c.loop-literal-test.false c.loop-literal.invariant

use Rattle.std.proofs.Common.{arith}
use Rattle.genlib_expr.specs.Text.{depth_from}
use Rattle.genlib_expr.proofs.Depths.{depth_step, depth_done}
use Rattle.genlib_expr.proofs.tokens.depth_of.Goals as goal

pub loop-token-preserved : goal.loop-token-preserved
loop-token-preserved c = record {
  whole = depth_step c.loop-token.level c.level_behind-level.result c.loop-token.deepest c.larger-deepest.result (depth_from 0 c.args.tokens.now) c.loop-token.token-index c.args.tokens.now _
      c.larger-deepest.ensures c.loop-token.invariant.whole c.loop-token.invariant.seen c.loop-token-test.true c.level_behind-level.ensures.value;
  few = omega (arith, c.level_behind-level.ensures.grows, c.loop-token.invariant.few);
  seen = omega (arith, c.larger-deepest.ensures);
}

pub returns : goal.returns
returns c =
    depth_done c.loop-token.level c.loop-token.deepest (depth_from 0 c.args.tokens.now) c.loop-token.token-index c.args.tokens.now c.loop-token.invariant.whole c.loop-token.invariant.seen c.loop-token-test.false

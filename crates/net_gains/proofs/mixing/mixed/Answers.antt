use Rattle.std.proofs.Common.{arith}
use Rattle.net_gains.proofs.Mixed.{mixed_next, mixed_last}
use Rattle.net_gains.proofs.mixing.mixed.Goals as goal

pub loop-at-preserved : goal.loop-at-preserved
loop-at-preserved c = mixed_next c.args.numbers.now c.loop-at.made c.loop-at.at 0 c.loop-at-test.true c.loop-at.invariant

pub returns : goal.returns
returns c = mixed_last c.args.numbers.now c.loop-at.made c.loop-at.at (omega (arith, c.loop-at-test.false)) c.loop-at.invariant

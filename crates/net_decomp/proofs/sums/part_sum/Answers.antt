use Rattle.std.proofs.Common.{arith}
use Rattle.net_decomp.proofs.Along.{along_begin}
use Rattle.net_decomp.proofs.sums.part_sum.Goals as goal

pub returns-in-None : goal.returns-in-None
returns-in-None g c =
    (c.requires.nodes, along_begin c.args.rule c.args.place c.args.work.now c.requires.sound c.requires.done, omega (arith))

pub part_literals-requires-clause-sum : goal.part_literals-requires-clause-sum
part_literals-requires-clause-sum g c = rw c.in-Some.is at c.in_ok-sum_at.ensures

use Rattle.std.proofs.Common.{arith}
use Rattle.net_candidates.proofs.WithOthers.{each_step, each_all}
use Rattle.net_candidates.proofs.others.add_all_with_others.Goals as goal

pub loop-cube-preserved : goal.loop-cube-preserved
loop-cube-preserved c =
    each_step c.args.others.now c.args.cubes.now c.loop-cube.cube-index c.cube-item.result c.args.made.now.keys c.loop-cube.made.keys c.add_with_others.new.made.keys
    (omega arith) c.cube-item.is c.loop-cube.invariant c.in_ok-add_with_others.ensures

pub returns : goal.returns
returns c = each_all c.args.others.now c.args.cubes.now c.loop-cube.cube-index c.args.made.now.keys c.loop-cube.made.keys (omega arith) c.loop-cube.invariant

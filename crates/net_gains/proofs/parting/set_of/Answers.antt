use Rattle.net_gains.proofs.InSets.{set_more}
use Rattle.net_gains.proofs.parting.set_of.Goals as goal

pub loop-cube-preserved : goal.loop-cube-preserved
loop-cube-preserved c =
    set_more (λ cube. cube.items) c.args.cubes.now c.loop-cube.cube-index c.cube-item.result c.loop-cube-test.true c.cube-item.is c.loop-cube.set.keys c.insert.new.self.keys c.as_slice.result c.as_slice.ensures.value
    c.in_ok-_new.ensures.keys c.loop-cube.invariant

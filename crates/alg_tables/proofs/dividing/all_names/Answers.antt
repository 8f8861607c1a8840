use Rattle.alg_tables.proofs.Divided.{names_more}
use Rattle.alg_tables.proofs.dividing.all_names.Goals as goal

pub loop-cube-preserved : goal.loop-cube-preserved
loop-cube-preserved c =
    names_more c.args.cover.now c.loop-cube.cube-index c.cube-item.result c.as_slice.result.now c.loop-cube.names.items c.push_cube_names.new.names.items c.loop-cube-test.true c.cube-item.is
    c.as_slice.ensures c.in_ok-push_cube_names.ensures c.loop-cube.invariant

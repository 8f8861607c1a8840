use Rattle.std.proofs.Common.{arith}
use Rattle.cube_cover.proofs.Numbered.{width_picked}
use Rattle.cube_cover.proofs.tautology.some_has_points.Goals as goal

pub has_points-requires : goal.has_points-requires
has_points-requires g c = width_picked _ _ c.args.numbers.now c.loop-number.number-index c.requires (omega (arith, c.loop-number-test.true))

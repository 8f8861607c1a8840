use Rattle.cube_cover.proofs.Dashed.{reduction_more}
use Rattle.cube_cover.proofs.unate.reduce.Goals as goal

pub returns-then-len-before : goal.returns-then-len-before
returns-then-len-before g c = reduction_more _ _ _ _ c.loop-round.invariant c.in_ok-kept-2.ensures

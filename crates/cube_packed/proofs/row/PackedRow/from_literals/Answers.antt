use Rattle.cube_packed.proofs.PlaneLiterals.{filled_first, filled_more, filled_last}
use Rattle.cube_packed.proofs.row.PackedRow.from_literals.Goals as goal

pub loop-place-init : goal.loop-place-init
loop-place-init c = filled_first _ _ c.in_ok-row.ensures

pub loop-place-preserved : goal.loop-place-preserved
loop-place-preserved c = filled_more _ _ _ _ c.loop-place.invariant c.loop-place-test.true c.set.ensures

pub returns : goal.returns
returns c = filled_last _ _ _ c.loop-place.invariant c.loop-place-test.false

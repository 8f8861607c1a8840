use Rattle.std.proofs.Common.{sym, ◌∙◌, false}
use Rattle.cube_packed.proofs.PlaneLiterals.{intersects_by_planes}
use Rattle.cube_packed.proofs.row.PackedRowRow.intersects.Goals as goal

pub returns-then-not-are_apart : goal.returns-then-not-are_apart
returns-then-not-are_apart c =
    intersects_by_planes c.args.self.now c.args.other.now c.planes.result.0.now c.planes.result.1.now c.planes-2.result.0.now c.planes-2.result.1.now c.requires
    c.planes.ensures.literals c.planes-2.ensures.literals c.planes.ensures.cube c.planes-2.ensures.cube false
    (λ t. absurd cc) (λ h k. sym c.if-not-are_apart.true ∙ c.are_apart.ensures.1 h)

pub returns : goal.returns
returns c =
    intersects_by_planes c.args.self.now c.args.other.now c.planes.result.0.now c.planes.result.1.now c.planes-2.result.0.now c.planes-2.result.1.now c.requires
    c.planes.ensures.literals c.planes-2.ensures.literals c.planes.ensures.cube c.planes-2.ensures.cube c.are_apart-2.result
    (λ t. (c.are_apart.ensures.0 c.if-not-are_apart.false, c.are_apart-2.ensures.0 t)) (λ h k. c.are_apart-2.ensures.1 k)

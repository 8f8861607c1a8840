use Rattle.std.proofs.Common.{sym, ◌∙◌, false}
use Rattle.cube_packed.proofs.PlaneLiterals.{contains_by_planes}
use Rattle.cube_packed.proofs.row.PackedRowRow.contains.Goals as goal

pub returns-then-not-is_within : goal.returns-then-not-is_within
returns-then-not-is_within c =
    contains_by_planes c.args.self.now c.args.other.now c.planes.result.0.now c.planes.result.1.now c.planes-2.result.0.now c.planes-2.result.1.now c.requires
    c.planes.ensures.literals c.planes-2.ensures.literals c.planes.ensures.cube c.planes-2.ensures.cube false
    (λ t. absurd cc) (λ h k. sym c.if-not-is_within.true ∙ c.is_within.ensures.1 h)

pub returns : goal.returns
returns c =
    contains_by_planes c.args.self.now c.args.other.now c.planes.result.0.now c.planes.result.1.now c.planes-2.result.0.now c.planes-2.result.1.now c.requires
    c.planes.ensures.literals c.planes-2.ensures.literals c.planes.ensures.cube c.planes-2.ensures.cube c.is_within-2.result
    (λ t. (c.is_within.ensures.0 c.if-not-is_within.false, c.is_within-2.ensures.0 t)) (λ h k. c.is_within-2.ensures.1 k)

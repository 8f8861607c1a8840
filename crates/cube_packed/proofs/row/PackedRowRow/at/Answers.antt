use Rattle.std.proofs.Common.{sym, ◌∙◌}
use Rattle.cube_packed.proofs.PlaneLiterals.{positive_at, negative_at, dash_at}
use Rattle.cube_packed.proofs.row.PackedRowRow.at.Goals as goal

pub returns-then-has_bit : goal.returns-then-has_bit
returns-then-has_bit c =
    positive_at c.args.self.now c.planes.result.0.now c.planes.result.1.now c.args.place c.planes.ensures.literals c.requires (sym c.has_bit.ensures ∙ c.if-has_bit.true)

pub returns-then-has_bit-2 : goal.returns-then-has_bit-2
returns-then-has_bit-2 c =
    negative_at c.args.self.now c.planes.result.0.now c.planes.result.1.now c.args.place c.planes.ensures.literals c.requires
    (sym c.has_bit.ensures ∙ c.if-has_bit.false) (sym c.has_bit-2.ensures ∙ c.if-has_bit-2.true)

pub returns : goal.returns
returns c =
    dash_at c.args.self.now c.planes.result.0.now c.planes.result.1.now c.args.place c.planes.ensures.literals c.requires
    (sym c.has_bit.ensures ∙ c.if-has_bit.false) (sym c.has_bit-2.ensures ∙ c.if-has_bit-2.false)

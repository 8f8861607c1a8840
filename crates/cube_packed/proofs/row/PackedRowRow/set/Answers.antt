use Rattle.std.proofs.Common.{arith}
use Rattle.cube_packed.proofs.PlaneLiterals.{packed_width, set_packed}
use Rattle.cube_packed.proofs.row.PackedRowRow.set.Goals as goal

pub set_literal-requires-clause-inside : goal.set_literal-requires-clause-inside
set_literal-requires-clause-inside c =
    omega (arith, packed_width c.self.inside.width c.self.inside.words.items c.args.self.now c.self.view_is, c.plane_len-half.ensures)

pub invariant_of-self : goal.invariant_of-self
invariant_of-self c =
    (set_packed c.self.inside.width c.plane_len-half.result c.args.place c.self.inside.words.items c.as_mut_slice.result.now c.set_literal.new.words c.args.self.now c.args.literal
    c.self.view_is c.self.invariant c.requires c.plane_len-half.ensures c.as_mut_slice.ensures.value (omega arith) c.set_literal.ensures.positive c.set_literal.ensures.negative).1

pub returns : goal.returns
returns c =
    (set_packed c.self.inside.width c.plane_len-half.result c.args.place c.self.inside.words.items c.as_mut_slice.result.now c.set_literal.new.words c.args.self.now c.args.literal
    c.self.view_is c.self.invariant c.requires c.plane_len-half.ensures c.as_mut_slice.ensures.value (omega arith) c.set_literal.ensures.positive c.set_literal.ensures.negative).0

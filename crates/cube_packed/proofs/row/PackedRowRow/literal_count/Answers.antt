use Rattle.std.proofs.Common.{ℕ, sym, ap, ◌∙◌, subst}
use Rattle.cube_cover.specs.Literals.{row_literals}
use Rattle.cube_packed.specs.Planes.{plane_literals, AreCube}
use Rattle.cube_packed.proofs.row.PackedRowRow.literal_count.Goals as goal

pub one_count-requires : goal.one_count-requires
one_count-requires c = subst (λ (w : ℕ). AreCube w c.planes.result.0.now c.planes.result.1.now) (sym c.width.ensures) c.planes.ensures.cube

pub returns : goal.returns
returns c = c.one_count.ensures ∙ ap (λ (w : ℕ). row_literals (plane_literals w c.planes.result.0.now c.planes.result.1.now)) c.width.ensures ∙ ap row_literals c.planes.ensures.literals

use Rattle.std.proofs.Common.{◌≡◌, map, refl}
use Rattle.sis_base.specs.Rows.{HasWidth}
use Rattle.cube_cover.specs.Covers.{cofactor_rows}
use Rattle.cube_cover.proofs.Points.{HasWidth-cofactor, value-cofactor}
use Rattle.cube_cover.proofs.cover.Cover.cofactor.Goals as goal

pub invariant_of-result : goal.invariant_of-result
invariant_of-result g c = rw (c.in_ok-rows.ensures, c.as_slice.ensures.value) (HasWidth-cofactor _ _ _ _ c.self.invariant)

pub returns-clause-points : goal.returns-clause-points
returns-clause-points g c =
    let w : HasWidth c.args.self.now.width c.args.self.now.rows = rw (← c.self.view_is) c.self.invariant in
    let e : map g.R.Row.literals c.in_ok-rows.rows.items ≡ cofactor_rows c.args.place c.args.value c.args.self.now.rows = rw (c.in_ok-rows.ensures, c.as_slice.ensures.value, ← c.self.view_is) refl in
    λ point d. rw e (value-cofactor c.args.self.now.width c.args.self.now.rows point c.args.place c.args.value w c.requires d)

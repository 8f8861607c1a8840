use Rattle.std.proofs.Common.{ℕ, map, List, Option, Bool, sym, subst}
use Rattle.sis_base.specs.Rows.{HasWidth}
use Rattle.cube_cover.proofs.Points.{width_read}
use Rattle.alg_div.proofs.steps.products_of.Goals as goal

pub add_products-requires : goal.add_products-requires
add_products-requires g c =
    subst (λ (n : ℕ). HasWidth n (map g.R.Row.literals c.rows-others.result.now))
    (sym (width_read g.R.Row.literals c.args.rows.now.width c.args.cubes.now c.loop-cube.cube-index c.cube-item.result c.requires c.loop-cube-test.true c.cube-item.is))
    (subst (λ (x : List (List (Option Bool))). HasWidth c.args.rows.now.width x) (sym c.rows-others.ensures.items) c.rows-others.ensures.widths)

use Rattle.std.proofs.Common.{◌≡◌, ℕ, length, sym, subst}
use Rattle.sis_base.specs.Rows.{HasWidth}
use Rattle.cube_cover.specs.Covers.{Shape}
use Rattle.alg_div.specs.Cubes.{Has}
use Rattle.alg_div.proofs.Lists.{Has-at}
use Rattle.sis_session.proofs.kernels.lines_of.Goals as goal

pub sum_text-requires : goal.sum_text-requires
sum_text-requires c =
    let wide : c.cover-item.result.width ≡ length c.args.names.now =
    c.requires c.cover-item.result (subst (λ (z : Shape). Has z c.args.covers.now) (sym c.cover-item.is) (Has-at c.args.covers.now c.loop-cover.cover-index _ c.loop-cover-test.true)) in
    subst (HasWidth (length c.args.names.now)) (sym c.rows.ensures.items)
    (subst (λ (n : ℕ). HasWidth n c.cover-item.result.rows) wide c.rows.ensures.widths)

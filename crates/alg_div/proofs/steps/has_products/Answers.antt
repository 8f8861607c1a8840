use Rattle.std.proofs.Common.{◌≡◌, ℕ, Option, Bool, List, length, map, ap, sym, refl, subst, ◌∙◌, is_some, not, true≢false}
use Rattle.sis_base.specs.Rows.{HasWidth}
use Rattle.cube_cover.proofs.Points.{width_read}
use Rattle.alg_div.specs.Cubes.{Has, times}
use Rattle.alg_div.proofs.Cubes.{length-times, product_times}
use Rattle.alg_div.proofs.Lists.{has-more, has-all, has-read, has-position, is_some-position}
use Rattle.alg_div.proofs.steps.has_products.Goals as goal

pub overlaid-requires : goal.overlaid-requires
overlaid-requires g c = sym (width_read g.R.Row.literals (length (g.R.Row.literals c.args.cube.now)) c.args.d.now c.loop-row.row-index c.row-item.result c.requires.divisor c.loop-row-test.true c.row-item.is)

pub find-requires-clause-widths : goal.find-requires-clause-widths
find-requires-clause-widths g c =
    let even : length (g.R.Row.literals c.args.cube.now) ≡ length (g.R.Row.literals c.row-item.result) = sym (width_read g.R.Row.literals (length (g.R.Row.literals c.args.cube.now)) c.args.d.now c.loop-row.row-index c.row-item.result c.requires.divisor c.loop-row-test.true c.row-item.is) in
    let made : g.R.Row.literals c.in_ok-product.product ≡ times (g.R.Row.literals c.args.cube.now) (g.R.Row.literals c.row-item.result) = c.in_ok-product.ensures ∙ product_times _ _ even in
    subst (λ (n : ℕ). HasWidth n (map g.R.Row.literals c.args.f.now)) (sym (ap length made ∙ length-times (g.R.Row.literals c.args.cube.now) (g.R.Row.literals c.row-item.result) even)) c.requires.width

pub loop-row-init : goal.loop-row-init
loop-row-init g c = λ row h. absurd h

pub loop-row-preserved : goal.loop-row-preserved
loop-row-preserved g c =
    let even : length (g.R.Row.literals c.args.cube.now) ≡ length (g.R.Row.literals c.row-item.result) = sym (width_read g.R.Row.literals (length (g.R.Row.literals c.args.cube.now)) c.args.d.now c.loop-row.row-index c.row-item.result c.requires.divisor c.loop-row-test.true c.row-item.is) in
    let made : g.R.Row.literals c.in_ok-product.product ≡ times (g.R.Row.literals c.args.cube.now) (g.R.Row.literals c.row-item.result) = c.in_ok-product.ensures ∙ product_times _ _ even in
    has-more (λ row. Has (times (g.R.Row.literals c.args.cube.now) row) (map g.R.Row.literals c.args.f.now)) g.R.Row.literals c.args.d.now c.loop-row.row-index c.row-item.result c.loop-row-test.true c.row-item.is c.loop-row.invariant
    (subst (λ (x : List (Option Bool)). Has x (map g.R.Row.literals c.args.f.now)) made
    (has-position (g.R.Row.literals c.in_ok-product.product) (map g.R.Row.literals c.args.f.now)
    (ap is_some (sym c.in_ok-find.ensures) ∙ c.is_none.ensures ∙ ap not c.if-is_none.false)))

pub returns : goal.returns
returns g c = (λ _. has-all (λ row. Has (times (g.R.Row.literals c.args.cube.now) row) (map g.R.Row.literals c.args.f.now)) g.R.Row.literals c.args.d.now c.loop-row.row-index c.loop-row-test.false c.loop-row.invariant, λ _. refl)

pub returns-then-is_none : goal.returns-then-is_none
returns-then-is_none g c =
    let even : length (g.R.Row.literals c.args.cube.now) ≡ length (g.R.Row.literals c.row-item.result) = sym (width_read g.R.Row.literals (length (g.R.Row.literals c.args.cube.now)) c.args.d.now c.loop-row.row-index c.row-item.result c.requires.divisor c.loop-row-test.true c.row-item.is) in
    let made : g.R.Row.literals c.in_ok-product.product ≡ times (g.R.Row.literals c.args.cube.now) (g.R.Row.literals c.row-item.result) = c.in_ok-product.ensures ∙ product_times _ _ even in (
      λ t. cc,
      λ h. absurd (true≢false (
          sym (is_some-position (g.R.Row.literals c.in_ok-product.product) (map g.R.Row.literals c.args.f.now) (subst (λ (x : List (Option Bool)). Has x (map g.R.Row.literals c.args.f.now)) (sym made) (h (g.R.Row.literals c.row-item.result) (has-read g.R.Row.literals c.args.d.now c.loop-row.row-index c.row-item.result c.loop-row-test.true c.row-item.is))))
          ∙ ap is_some (sym c.in_ok-find.ensures) ∙ c.is_none.ensures ∙ ap not c.if-is_none.true)),
    )

use Rattle.std.proofs.Common.{◌≡◌, ◌+◌, ◌∷◌, Option, Bool, List, length, drop, map, ap, sym, ◌∙◌}
use Rattle.cube_cover.proofs.Points.{width_read}
use Rattle.alg_div.specs.Cubes.{times}
use Rattle.alg_div.specs.Steps.{support_from}
use Rattle.alg_div.proofs.Lists.{map-drop}
use Rattle.alg_div.proofs.Cubes.{length-times, product_times, support-more}
use Rattle.alg_div.proofs.steps.support_of.Goals as goal

pub overlaid-requires : goal.overlaid-requires
overlaid-requires g c =
    c.loop-row.invariant.wide ∙ sym (width_read g.R.Row.literals c.args.width c.args.rows.now c.loop-row.row-index c.row-item.result c.requires c.loop-row-test.true c.row-item.is)

pub loop-row-preserved : goal.loop-row-preserved
loop-row-preserved g c =
    let wide : length (g.R.Row.literals c.row-item.result) ≡ c.args.width = width_read g.R.Row.literals c.args.width c.args.rows.now c.loop-row.row-index c.row-item.result c.requires c.loop-row-test.true c.row-item.is in
    let even : length (g.R.Row.literals c.loop-row.mask) ≡ length (g.R.Row.literals c.row-item.result) = c.loop-row.invariant.wide ∙ sym wide in
    let made : g.R.Row.literals c.in_ok-mask-2.mask ≡ times (g.R.Row.literals c.loop-row.mask) (g.R.Row.literals c.row-item.result) = c.in_ok-mask-2.ensures ∙ product_times _ _ even in
    let next : map g.R.Row.literals (drop c.loop-row.row-index c.args.rows.now) ≡ g.R.Row.literals c.row-item.result ∷ map g.R.Row.literals (drop (c.loop-row.row-index + 1) c.args.rows.now) = map-drop g.R.Row.literals c.args.rows.now c.loop-row.row-index c.row-item.result c.loop-row-test.true c.row-item.is in
    record {
      masked = ap (λ (x : List (Option Bool)). support_from x (map g.R.Row.literals (drop (c.loop-row.row-index + 1) c.args.rows.now))) made ∙ support-more (g.R.Row.literals c.loop-row.mask) _ (g.R.Row.literals c.row-item.result) _ next ∙ c.loop-row.invariant.masked;
      wide = ap length made ∙ length-times (g.R.Row.literals c.loop-row.mask) (g.R.Row.literals c.row-item.result) even ∙ c.loop-row.invariant.wide;
    }

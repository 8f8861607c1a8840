use Rattle.std.proofs.Common.{◌≡◌, ◌+◌, ◌∷◌, ◌++◌, [], Option, Bool, List, length, drop, map, ap, sym, ◌∙◌}
use Rattle.std.proofs.lemmas.List.{map_push}
use Rattle.cube_cover.proofs.Points.{width_read}
use Rattle.alg_div.specs.Cubes.{times, products_by}
use Rattle.alg_div.proofs.Cubes.{product_times}
use Rattle.alg_div.proofs.Lists.{map-drop, grow}
use Rattle.alg_div.proofs.steps.add_products.Goals as goal

pub overlaid-requires : goal.overlaid-requires
overlaid-requires g c = sym (width_read g.R.Row.literals (length (g.R.Row.literals c.args.cube.now)) c.args.rows.now c.loop-row.row-index c.row-item.result c.requires c.loop-row-test.true c.row-item.is)

pub loop-row-preserved : goal.loop-row-preserved
unfolding products_by
loop-row-preserved g c =
    let cube : List (Option Bool) = g.R.Row.literals c.args.cube.now in
    let row : List (Option Bool) = g.R.Row.literals c.row-item.result in
    let even : length cube ≡ length row = sym (width_read g.R.Row.literals (length cube) c.args.rows.now c.loop-row.row-index c.row-item.result c.requires c.loop-row-test.true c.row-item.is) in
    let made : g.R.Row.literals c.in_ok-overlaid.field-0 ≡ times cube row = c.in_ok-overlaid.ensures ∙ product_times _ _ even in
    let next : map g.R.Row.literals (drop c.loop-row.row-index c.args.rows.now) ≡ row ∷ map g.R.Row.literals (drop (c.loop-row.row-index + 1) c.args.rows.now) = map-drop g.R.Row.literals c.args.rows.now c.loop-row.row-index c.row-item.result c.loop-row-test.true c.row-item.is in
    let grown : map g.R.Row.literals c.push.new.self.items ≡ map g.R.Row.literals c.loop-row.made.items ++ times cube row ∷ [] = ap (map g.R.Row.literals) c.in_ok-push.ensures.items ∙ map_push g.R.Row.literals c.loop-row.made.items c.in_ok-overlaid.field-0 ∙ ap (λ (x : List (Option Bool)). map g.R.Row.literals c.loop-row.made.items ++ x ∷ []) made in
    grow (map g.R.Row.literals c.loop-row.made.items) (times cube row ∷ []) (products_by cube (map g.R.Row.literals (drop (c.loop-row.row-index + 1) c.args.rows.now))) _ _
    (ap (λ (x : List (List (Option Bool))). map g.R.Row.literals c.loop-row.made.items ++ products_by cube x) (sym next) ∙ c.loop-row.invariant) grown

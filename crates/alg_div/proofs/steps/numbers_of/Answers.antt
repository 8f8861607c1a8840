use Rattle.std.proofs.Common.{◌≡◌, ℕ, ◌+◌, Option, Bool, List, length, take, map, ap, sym, ◌∙◌, arith}
use Rattle.std.proofs.lemmas.List.{length-map, length-take}
use Rattle.std.specs.Map.{lookup}
use Rattle.std.specs.List.{position_from}
use Rattle.alg_div.specs.Cubes.{row_eq}
use Rattle.alg_div.specs.Steps.{or_last, number_in}
use Rattle.alg_div.proofs.Lists.{map-take, position-push}
use Rattle.alg_div.proofs.steps.numbers_of.Goals as goal

pub loop-number-init : goal.loop-number-init
loop-number-init g c = λ row. ap (λ (es : List _). lookup (λ key. row_eq row key.items) es) c.new-index.ensures.empty

pub loop-number-preserved : goal.loop-number-preserved
loop-number-preserved g c = λ row.
    let rows : List (List (Option Bool)) = map g.R.Row.literals (take c.loop-number.number c.args.rows.now) in
    let last : List (Option Bool) = g.R.Row.literals c.index-rows-number.result in
    let count : 0 + length rows ≡ c.loop-number.number = omega (arith, length-map (take c.loop-number.number c.args.rows.now) g.R.Row.literals, length-take c.loop-number.number c.args.rows.now, c.loop-number-test.true) in
    c.in_ok-add_number.ensures row
    ∙ ap (λ (x : List (Option Bool)). or_last (number_in c.loop-number.index row) (row_eq row x) c.loop-number.number) c.in_ok-literals_of.ensures
    ∙ ap (λ (x : Option ℕ). or_last x (row_eq row last) c.loop-number.number) (c.loop-number.invariant row)
    ∙ ap (λ (n : ℕ). or_last (position_from (row_eq row) 0 rows) (row_eq row last) n) (sym count)
    ∙ sym (position-push 0 row rows last)
    ∙ ap (λ (x : List (List (Option Bool))). position_from (row_eq row) 0 x) (sym (map-take g.R.Row.literals c.args.rows.now c.loop-number.number c.index-rows-number.result c.loop-number-test.true c.index-rows-number.is))

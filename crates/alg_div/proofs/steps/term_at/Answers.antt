use Rattle.std.proofs.Common.{◌≡◌, ℕ, Bool, true, false, Option, Some, None, List, length, map, ap, sym, subst, ◌∙◌, arith}
use Rattle.sis_base.specs.Rows.{HasWidth}
use Rattle.std.specs.List.{position_from}
use Rattle.cube_cover.proofs.Points.{width_read}
use Rattle.alg_div.specs.Cubes.{Has, times, row_eq}
use Rattle.alg_div.specs.Steps.{strip, support, HasProducts}
use Rattle.alg_div.proofs.Lists.{read-map}
use Rattle.alg_div.proofs.Cubes.{length-times, length-strip, product_times, without_strip}
use Rattle.alg_div.proofs.Terms.{term-some, term-missing, term-lacking, term-holds, width-has}
use Rattle.alg_div.proofs.steps.term_at.Goals as goal

pub contains_row-requires : goal.contains_row-requires
contains_row-requires g c =
    let wide : length (g.R.Row.literals c.index-f-number.result) ≡ length (g.R.Row.literals c.args.mask.now) = width_read g.R.Row.literals (length (g.R.Row.literals c.args.mask.now)) c.args.f.now c.args.number c.index-f-number.result c.requires.width c.requires.number c.index-f-number.is in
    width-has _ _ (g.R.Row.literals c.args.first.now) c.requires.divisor c.requires.first ∙ sym wide

pub returns-then-not-contains_row : goal.returns-then-not-contains_row
returns-then-not-contains_row g c =
    term-holds (length (g.R.Row.literals c.args.mask.now)) (map g.R.Row.literals c.args.f.now) (map g.R.Row.literals c.args.d.now) (g.R.Row.literals c.args.first.now) (g.R.Row.literals c.index-f-number.result) c.args.number c.requires.first (read-map g.R.Row.literals c.args.f.now c.args.number c.index-f-number.result c.requires.number c.index-f-number.is) (sym c.contains_row.ensures ∙ c.if-not-contains_row.true)

pub without-requires : goal.without-requires
without-requires g c =
    let wide : length (g.R.Row.literals c.index-f-number-2.result) ≡ length (g.R.Row.literals c.args.mask.now) = width_read g.R.Row.literals (length (g.R.Row.literals c.args.mask.now)) c.args.f.now c.args.number c.index-f-number-2.result c.requires.width c.requires.number c.index-f-number-2.is in
    wide

pub overlaid-requires : goal.overlaid-requires
overlaid-requires g c =
    let wide : length (g.R.Row.literals c.index-f-number-2.result) ≡ length (g.R.Row.literals c.args.mask.now) = width_read g.R.Row.literals (length (g.R.Row.literals c.args.mask.now)) c.args.f.now c.args.number c.index-f-number-2.result c.requires.width c.requires.number c.index-f-number-2.is in
    let cube : g.R.Row.literals c.in_ok-cube.cube ≡ strip (support (length (g.R.Row.literals c.args.mask.now)) (map g.R.Row.literals c.args.d.now)) (g.R.Row.literals c.index-f-number-2.result) = c.in_ok-cube.ensures ∙ without_strip _ _ wide ∙ ap (λ (x : List (Option Bool)). strip x (g.R.Row.literals c.index-f-number-2.result)) c.requires.mask in
    let long : length (g.R.Row.literals c.in_ok-cube.cube) ≡ length (g.R.Row.literals c.args.mask.now) = ap length c.in_ok-cube.ensures ∙ ap length (without_strip _ _ wide) ∙ length-strip (g.R.Row.literals c.args.mask.now) (g.R.Row.literals c.index-f-number-2.result) ∙ wide in
    long ∙ sym (width-has _ _ (g.R.Row.literals c.args.first.now) c.requires.divisor c.requires.first)

pub find-requires-clause-widths : goal.find-requires-clause-widths
find-requires-clause-widths g c =
    let wide : length (g.R.Row.literals c.index-f-number-2.result) ≡ length (g.R.Row.literals c.args.mask.now) = width_read g.R.Row.literals (length (g.R.Row.literals c.args.mask.now)) c.args.f.now c.args.number c.index-f-number-2.result c.requires.width c.requires.number c.index-f-number-2.is in
    let cube : g.R.Row.literals c.in_ok-cube.cube ≡ strip (support (length (g.R.Row.literals c.args.mask.now)) (map g.R.Row.literals c.args.d.now)) (g.R.Row.literals c.index-f-number-2.result) = c.in_ok-cube.ensures ∙ without_strip _ _ wide ∙ ap (λ (x : List (Option Bool)). strip x (g.R.Row.literals c.index-f-number-2.result)) c.requires.mask in
    let long : length (g.R.Row.literals c.in_ok-cube.cube) ≡ length (g.R.Row.literals c.args.mask.now) = ap length c.in_ok-cube.ensures ∙ ap length (without_strip _ _ wide) ∙ length-strip (g.R.Row.literals c.args.mask.now) (g.R.Row.literals c.index-f-number-2.result) ∙ wide in
    let even : length (g.R.Row.literals c.in_ok-cube.cube) ≡ length (g.R.Row.literals c.args.first.now) = long ∙ sym (width-has _ _ (g.R.Row.literals c.args.first.now) c.requires.divisor c.requires.first) in
    let product : g.R.Row.literals c.in_ok-product.product ≡ times (g.R.Row.literals c.in_ok-cube.cube) (g.R.Row.literals c.args.first.now) = c.in_ok-product.ensures ∙ product_times _ _ even in
    subst (λ (n : ℕ). HasWidth n (map g.R.Row.literals c.args.f.now)) (sym (ap length product ∙ length-times (g.R.Row.literals c.in_ok-cube.cube) (g.R.Row.literals c.args.first.now) even ∙ long)) c.requires.width

pub returns-in-None : goal.returns-in-None
returns-in-None g c =
    let wide : length (g.R.Row.literals c.index-f-number-2.result) ≡ length (g.R.Row.literals c.args.mask.now) = width_read g.R.Row.literals (length (g.R.Row.literals c.args.mask.now)) c.args.f.now c.args.number c.index-f-number-2.result c.requires.width c.requires.number c.index-f-number-2.is in
    let cube : g.R.Row.literals c.in_ok-cube.cube ≡ strip (support (length (g.R.Row.literals c.args.mask.now)) (map g.R.Row.literals c.args.d.now)) (g.R.Row.literals c.index-f-number-2.result) = c.in_ok-cube.ensures ∙ without_strip _ _ wide ∙ ap (λ (x : List (Option Bool)). strip x (g.R.Row.literals c.index-f-number-2.result)) c.requires.mask in
    let long : length (g.R.Row.literals c.in_ok-cube.cube) ≡ length (g.R.Row.literals c.args.mask.now) = ap length c.in_ok-cube.ensures ∙ ap length (without_strip _ _ wide) ∙ length-strip (g.R.Row.literals c.args.mask.now) (g.R.Row.literals c.index-f-number-2.result) ∙ wide in
    let even : length (g.R.Row.literals c.in_ok-cube.cube) ≡ length (g.R.Row.literals c.args.first.now) = long ∙ sym (width-has _ _ (g.R.Row.literals c.args.first.now) c.requires.divisor c.requires.first) in
    let product : g.R.Row.literals c.in_ok-product.product ≡ times (g.R.Row.literals c.in_ok-cube.cube) (g.R.Row.literals c.args.first.now) = c.in_ok-product.ensures ∙ product_times _ _ even in
    term-missing (length (g.R.Row.literals c.args.mask.now)) (map g.R.Row.literals c.args.f.now) (map g.R.Row.literals c.args.d.now) (g.R.Row.literals c.args.first.now) (g.R.Row.literals c.index-f-number-2.result) c.args.number c.requires.first (read-map g.R.Row.literals c.args.f.now c.args.number c.index-f-number-2.result c.requires.number c.index-f-number-2.is) wide (λ h.
    let found : ◌≡◌ {A = Option ℕ} None (Some c.args.number) = sym c.in-None.is ∙ c.in_ok-find.ensures ∙ ap (λ (x : List (Option Bool)). position_from (row_eq x) 0 (map g.R.Row.literals c.args.f.now)) (product ∙ ap (λ (x : List (Option Bool)). times x (g.R.Row.literals c.args.first.now)) cube) ∙ h in
    cc)

pub returns-then-found-number : goal.returns-then-found-number
returns-then-found-number g c =
    let wide : length (g.R.Row.literals c.index-f-number-2.result) ≡ length (g.R.Row.literals c.args.mask.now) = width_read g.R.Row.literals (length (g.R.Row.literals c.args.mask.now)) c.args.f.now c.args.number c.index-f-number-2.result c.requires.width c.requires.number c.index-f-number-2.is in
    let cube : g.R.Row.literals c.in_ok-cube.cube ≡ strip (support (length (g.R.Row.literals c.args.mask.now)) (map g.R.Row.literals c.args.d.now)) (g.R.Row.literals c.index-f-number-2.result) = c.in_ok-cube.ensures ∙ without_strip _ _ wide ∙ ap (λ (x : List (Option Bool)). strip x (g.R.Row.literals c.index-f-number-2.result)) c.requires.mask in
    let long : length (g.R.Row.literals c.in_ok-cube.cube) ≡ length (g.R.Row.literals c.args.mask.now) = ap length c.in_ok-cube.ensures ∙ ap length (without_strip _ _ wide) ∙ length-strip (g.R.Row.literals c.args.mask.now) (g.R.Row.literals c.index-f-number-2.result) ∙ wide in
    let even : length (g.R.Row.literals c.in_ok-cube.cube) ≡ length (g.R.Row.literals c.args.first.now) = long ∙ sym (width-has _ _ (g.R.Row.literals c.args.first.now) c.requires.divisor c.requires.first) in
    let product : g.R.Row.literals c.in_ok-product.product ≡ times (g.R.Row.literals c.in_ok-cube.cube) (g.R.Row.literals c.args.first.now) = c.in_ok-product.ensures ∙ product_times _ _ even in
    term-missing (length (g.R.Row.literals c.args.mask.now)) (map g.R.Row.literals c.args.f.now) (map g.R.Row.literals c.args.d.now) (g.R.Row.literals c.args.first.now) (g.R.Row.literals c.index-f-number-2.result) c.args.number c.requires.first (read-map g.R.Row.literals c.args.f.now c.args.number c.index-f-number-2.result c.requires.number c.index-f-number-2.is) wide (λ h.
    let found : ◌≡◌ {A = Option ℕ} (Some c.in-Some.found) (Some c.args.number) = sym c.in-Some.is ∙ c.in_ok-find.ensures ∙ ap (λ (x : List (Option Bool)). position_from (row_eq x) 0 (map g.R.Row.literals c.args.f.now)) (product ∙ ap (λ (x : List (Option Bool)). times x (g.R.Row.literals c.args.first.now)) cube) ∙ h in
    let same : c.in-Some.found ≡ c.args.number = cc in absurd (omega arith))

pub has_products-requires-clause-width : goal.has_products-requires-clause-width
has_products-requires-clause-width g c =
    let wide : length (g.R.Row.literals c.index-f-number-2.result) ≡ length (g.R.Row.literals c.args.mask.now) = width_read g.R.Row.literals (length (g.R.Row.literals c.args.mask.now)) c.args.f.now c.args.number c.index-f-number-2.result c.requires.width c.requires.number c.index-f-number-2.is in
    let cube : g.R.Row.literals c.in_ok-cube.cube ≡ strip (support (length (g.R.Row.literals c.args.mask.now)) (map g.R.Row.literals c.args.d.now)) (g.R.Row.literals c.index-f-number-2.result) = c.in_ok-cube.ensures ∙ without_strip _ _ wide ∙ ap (λ (x : List (Option Bool)). strip x (g.R.Row.literals c.index-f-number-2.result)) c.requires.mask in
    let long : length (g.R.Row.literals c.in_ok-cube.cube) ≡ length (g.R.Row.literals c.args.mask.now) = ap length c.in_ok-cube.ensures ∙ ap length (without_strip _ _ wide) ∙ length-strip (g.R.Row.literals c.args.mask.now) (g.R.Row.literals c.index-f-number-2.result) ∙ wide in
    subst (λ (n : ℕ). HasWidth n (map g.R.Row.literals c.args.f.now)) (sym long) c.requires.width

pub has_products-requires-clause-divisor : goal.has_products-requires-clause-divisor
has_products-requires-clause-divisor g c =
    let wide : length (g.R.Row.literals c.index-f-number-2.result) ≡ length (g.R.Row.literals c.args.mask.now) = width_read g.R.Row.literals (length (g.R.Row.literals c.args.mask.now)) c.args.f.now c.args.number c.index-f-number-2.result c.requires.width c.requires.number c.index-f-number-2.is in
    let cube : g.R.Row.literals c.in_ok-cube.cube ≡ strip (support (length (g.R.Row.literals c.args.mask.now)) (map g.R.Row.literals c.args.d.now)) (g.R.Row.literals c.index-f-number-2.result) = c.in_ok-cube.ensures ∙ without_strip _ _ wide ∙ ap (λ (x : List (Option Bool)). strip x (g.R.Row.literals c.index-f-number-2.result)) c.requires.mask in
    let long : length (g.R.Row.literals c.in_ok-cube.cube) ≡ length (g.R.Row.literals c.args.mask.now) = ap length c.in_ok-cube.ensures ∙ ap length (without_strip _ _ wide) ∙ length-strip (g.R.Row.literals c.args.mask.now) (g.R.Row.literals c.index-f-number-2.result) ∙ wide in
    subst (λ (n : ℕ). HasWidth n (map g.R.Row.literals c.args.d.now)) (sym long) c.requires.divisor

pub returns-then-not-branch : goal.returns-then-not-branch
returns-then-not-branch g c =
    let wide : length (g.R.Row.literals c.index-f-number-2.result) ≡ length (g.R.Row.literals c.args.mask.now) = width_read g.R.Row.literals (length (g.R.Row.literals c.args.mask.now)) c.args.f.now c.args.number c.index-f-number-2.result c.requires.width c.requires.number c.index-f-number-2.is in
    let cube : g.R.Row.literals c.in_ok-cube.cube ≡ strip (support (length (g.R.Row.literals c.args.mask.now)) (map g.R.Row.literals c.args.d.now)) (g.R.Row.literals c.index-f-number-2.result) = c.in_ok-cube.ensures ∙ without_strip _ _ wide ∙ ap (λ (x : List (Option Bool)). strip x (g.R.Row.literals c.index-f-number-2.result)) c.requires.mask in
    let long : length (g.R.Row.literals c.in_ok-cube.cube) ≡ length (g.R.Row.literals c.args.mask.now) = ap length c.in_ok-cube.ensures ∙ ap length (without_strip _ _ wide) ∙ length-strip (g.R.Row.literals c.args.mask.now) (g.R.Row.literals c.index-f-number-2.result) ∙ wide in
    term-lacking (length (g.R.Row.literals c.args.mask.now)) (map g.R.Row.literals c.args.f.now) (map g.R.Row.literals c.args.d.now) (g.R.Row.literals c.args.first.now) (g.R.Row.literals c.index-f-number-2.result) c.args.number c.requires.first (read-map g.R.Row.literals c.args.f.now c.args.number c.index-f-number-2.result c.requires.number c.index-f-number-2.is) wide (λ h.
    let all : HasProducts (map g.R.Row.literals c.args.f.now) (g.R.Row.literals c.in_ok-cube.cube) (map g.R.Row.literals c.args.d.now) = λ x m. subst (λ (y : List (Option Bool)). Has (times y x) (map g.R.Row.literals c.args.f.now)) (sym cube) (h x m) in
    let yes : c.in_ok-has_products.field-0 ≡ true = c.in_ok-has_products.ensures.1 all in
    let nay : c.in_ok-has_products.field-0 ≡ false = c.if-not-branch.true in
    cc)

pub returns : goal.returns
returns g c =
    let wide : length (g.R.Row.literals c.index-f-number-2.result) ≡ length (g.R.Row.literals c.args.mask.now) = width_read g.R.Row.literals (length (g.R.Row.literals c.args.mask.now)) c.args.f.now c.args.number c.index-f-number-2.result c.requires.width c.requires.number c.index-f-number-2.is in
    let cube : g.R.Row.literals c.in_ok-cube.cube ≡ strip (support (length (g.R.Row.literals c.args.mask.now)) (map g.R.Row.literals c.args.d.now)) (g.R.Row.literals c.index-f-number-2.result) = c.in_ok-cube.ensures ∙ without_strip _ _ wide ∙ ap (λ (x : List (Option Bool)). strip x (g.R.Row.literals c.index-f-number-2.result)) c.requires.mask in
    let long : length (g.R.Row.literals c.in_ok-cube.cube) ≡ length (g.R.Row.literals c.args.mask.now) = ap length c.in_ok-cube.ensures ∙ ap length (without_strip _ _ wide) ∙ length-strip (g.R.Row.literals c.args.mask.now) (g.R.Row.literals c.index-f-number-2.result) ∙ wide in
    let even : length (g.R.Row.literals c.in_ok-cube.cube) ≡ length (g.R.Row.literals c.args.first.now) = long ∙ sym (width-has _ _ (g.R.Row.literals c.args.first.now) c.requires.divisor c.requires.first) in
    let product : g.R.Row.literals c.in_ok-product.product ≡ times (g.R.Row.literals c.in_ok-cube.cube) (g.R.Row.literals c.args.first.now) = c.in_ok-product.ensures ∙ product_times _ _ even in
    term-some (length (g.R.Row.literals c.args.mask.now)) (map g.R.Row.literals c.args.f.now) (map g.R.Row.literals c.args.d.now) (g.R.Row.literals c.args.first.now) (g.R.Row.literals c.index-f-number-2.result) (g.R.Row.literals c.in_ok-cube.cube) c.args.number cube wide
    (ap (λ (x : List (Option Bool)). position_from (row_eq x) 0 (map g.R.Row.literals c.args.f.now)) (sym product) ∙ sym c.in_ok-find.ensures ∙ c.in-Some.is ∙ ap (λ (n : ℕ). Some n) c.if-found-number.false)
    (λ x m. c.in_ok-has_products.ensures.0 c.if-not-branch.false x m)

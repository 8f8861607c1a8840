use Rattle.std.proofs.Common.{◌≡◌, ℕ, ◌<◌, Bool, Option, List, length, map, ap, sym, subst, get_or, [], ◌∙◌, arith}
use Rattle.std.proofs.lemmas.List.{length-map}
use Rattle.sis_base.specs.Rows.{HasWidth}
use Rattle.cube_cover.proofs.Points.{width_read}
use Rattle.alg_div.specs.Quotient.{IsQuotientBy}
use Rattle.alg_div.specs.Steps.{support}
use Rattle.alg_div.proofs.Lists.{positive, read-map}
use Rattle.alg_div.proofs.Terms.{length-mask, quotient-by}
use Rattle.alg_div.proofs.steps.quotient_of.Goals as goal

pub holder_count-requires : goal.holder_count-requires
holder_count-requires g c =
    let wide : HasWidth c.args.f.now.width (map g.R.Row.literals c.rows-rows.result.now) = subst (λ (x : List (List (Option Bool))). HasWidth c.args.f.now.width x) (sym c.rows-rows.ensures.items) c.rows-rows.ensures.widths in
    let divisor : HasWidth c.args.d.now.width (map g.R.Row.literals c.rows-cubes.result.now) = subst (λ (x : List (List (Option Bool))). HasWidth c.args.d.now.width x) (sym c.rows-cubes.ensures.items) c.rows-cubes.ensures.widths in
    let some : 0 < length c.rows-cubes.result.now = positive (length c.rows-cubes.result.now) (sym c.is_empty.ensures ∙ c.if-is_empty.false) in
    let first : length (g.R.Row.literals c.index-cubes-0.result) ≡ c.args.d.now.width = width_read g.R.Row.literals c.args.d.now.width c.rows-cubes.result.now 0 c.index-cubes-0.result divisor some c.index-cubes-0.is in
    subst (λ (n : ℕ). HasWidth n (map g.R.Row.literals c.rows-rows.result.now)) (c.requires ∙ sym first) wide

pub terms_of-requires-clause-width : goal.terms_of-requires-clause-width
terms_of-requires-clause-width g c =
    let wide : HasWidth c.args.f.now.width (map g.R.Row.literals c.rows-rows.result.now) = subst (λ (x : List (List (Option Bool))). HasWidth c.args.f.now.width x) (sym c.rows-rows.ensures.items) c.rows-rows.ensures.widths in
    let divisor : HasWidth c.args.d.now.width (map g.R.Row.literals c.rows-cubes.result.now) = subst (λ (x : List (List (Option Bool))). HasWidth c.args.d.now.width x) (sym c.rows-cubes.ensures.items) c.rows-cubes.ensures.widths in
    let mask : g.R.Row.literals c.in_ok-mask.mask ≡ support c.args.d.now.width (map g.R.Row.literals c.rows-cubes.result.now) = c.in_ok-mask.ensures ∙ ap (λ (n : ℕ). support n (map g.R.Row.literals c.rows-cubes.result.now)) c.width.ensures in
    let long : length (g.R.Row.literals c.in_ok-mask.mask) ≡ c.args.d.now.width = ap length mask ∙ length-mask c.args.d.now.width (map g.R.Row.literals c.rows-cubes.result.now) divisor in
    subst (λ (n : ℕ). HasWidth n (map g.R.Row.literals c.rows-rows.result.now)) (c.requires ∙ sym long) wide

pub terms_of-requires-clause-divisor : goal.terms_of-requires-clause-divisor
terms_of-requires-clause-divisor g c =
    let divisor : HasWidth c.args.d.now.width (map g.R.Row.literals c.rows-cubes.result.now) = subst (λ (x : List (List (Option Bool))). HasWidth c.args.d.now.width x) (sym c.rows-cubes.ensures.items) c.rows-cubes.ensures.widths in
    let mask : g.R.Row.literals c.in_ok-mask.mask ≡ support c.args.d.now.width (map g.R.Row.literals c.rows-cubes.result.now) = c.in_ok-mask.ensures ∙ ap (λ (n : ℕ). support n (map g.R.Row.literals c.rows-cubes.result.now)) c.width.ensures in
    let long : length (g.R.Row.literals c.in_ok-mask.mask) ≡ c.args.d.now.width = ap length mask ∙ length-mask c.args.d.now.width (map g.R.Row.literals c.rows-cubes.result.now) divisor in
    subst (λ (n : ℕ). HasWidth n (map g.R.Row.literals c.rows-cubes.result.now)) (sym long) divisor

pub terms_of-requires-clause-mask : goal.terms_of-requires-clause-mask
terms_of-requires-clause-mask g c =
    let divisor : HasWidth c.args.d.now.width (map g.R.Row.literals c.rows-cubes.result.now) = subst (λ (x : List (List (Option Bool))). HasWidth c.args.d.now.width x) (sym c.rows-cubes.ensures.items) c.rows-cubes.ensures.widths in
    let mask : g.R.Row.literals c.in_ok-mask.mask ≡ support c.args.d.now.width (map g.R.Row.literals c.rows-cubes.result.now) = c.in_ok-mask.ensures ∙ ap (λ (n : ℕ). support n (map g.R.Row.literals c.rows-cubes.result.now)) c.width.ensures in
    let long : length (g.R.Row.literals c.in_ok-mask.mask) ≡ c.args.d.now.width = ap length mask ∙ length-mask c.args.d.now.width (map g.R.Row.literals c.rows-cubes.result.now) divisor in
    mask ∙ ap (λ (n : ℕ). support n (map g.R.Row.literals c.rows-cubes.result.now)) (sym long)

pub returns : goal.returns
returns g c =
    let divisor : HasWidth c.args.d.now.width (map g.R.Row.literals c.rows-cubes.result.now) = subst (λ (x : List (List (Option Bool))). HasWidth c.args.d.now.width x) (sym c.rows-cubes.ensures.items) c.rows-cubes.ensures.widths in
    let mask : g.R.Row.literals c.in_ok-mask.mask ≡ support c.args.d.now.width (map g.R.Row.literals c.rows-cubes.result.now) = c.in_ok-mask.ensures ∙ ap (λ (n : ℕ). support n (map g.R.Row.literals c.rows-cubes.result.now)) c.width.ensures in
    let long : length (g.R.Row.literals c.in_ok-mask.mask) ≡ c.args.d.now.width = ap length mask ∙ length-mask c.args.d.now.width (map g.R.Row.literals c.rows-cubes.result.now) divisor in
    let some : 0 < length c.rows-cubes.result.now = positive (length c.rows-cubes.result.now) (sym c.is_empty.ensures ∙ c.if-is_empty.false) in
    quotient-by c.args.f.now.width (length (g.R.Row.literals c.in_ok-mask.mask)) c.args.f.now.rows c.args.d.now.rows (map g.R.Row.literals c.in_ok-terms.terms.items) (g.R.Row.literals c.index-cubes-0.result)
    (long ∙ sym c.requires)
    (read-map g.R.Row.literals c.rows-cubes.result.now 0 c.index-cubes-0.result some c.index-cubes-0.is ∙ ap (λ (x : List (List (Option Bool))). get_or x 0 []) c.rows-cubes.ensures.items)
    (omega (arith, some, length-map c.rows-cubes.result.now g.R.Row.literals, ap length c.rows-cubes.ensures.items))
    (subst (λ (x : List (List (Option Bool))). IsQuotientBy (length (g.R.Row.literals c.in_ok-mask.mask)) x (g.R.Row.literals c.index-cubes-0.result) c.args.d.now.rows (map g.R.Row.literals c.in_ok-terms.terms.items)) c.rows-rows.ensures.items
    (subst (λ (x : List (List (Option Bool))). IsQuotientBy (length (g.R.Row.literals c.in_ok-mask.mask)) (map g.R.Row.literals c.rows-rows.result.now) (g.R.Row.literals c.index-cubes-0.result) x (map g.R.Row.literals c.in_ok-terms.terms.items)) c.rows-cubes.ensures.items c.in_ok-terms.ensures))

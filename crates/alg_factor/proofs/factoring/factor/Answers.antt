use Rattle.std.proofs.Common.{◌≡◌, map, ◌∙◌, ap}
use Rattle.cube_cover.specs.Covers.{Shape}
use Rattle.alg_factor.specs.Forms.{IsFactored}
use Rattle.alg_factor.proofs.Laws.{expansion_of-rows, literals-most, fewer_where, equal_where, factored-one}
use Rattle.alg_factor.proofs.Choosing.{over-factored}
use Rattle.alg_factor.proofs.factoring.factor.Goals as goal

pub of-requires : goal.of-requires
of-requires g c =
    rw c.width-width.ensures (over-factored _ _ _ c.into_rows.ensures.widths (rw (← c.into_rows.ensures.items) c.in_ok-tree.ensures))

pub returns-clause-only : goal.returns-clause-only
returns-clause-only g c =
    let rows : map g.R.Row.literals c.into_rows.result.items ≡ c.args.f.now.rows = c.into_rows.ensures.items ∙ ap (λ (s : Shape). s.rows) c.in_ok-copied.ensures in
    let form : IsFactored c.args.f.now.rows c.of.result.form = rw (c.of.ensures, ← rows) c.in_ok-tree.ensures in
    λ other h. factored-one _ _ _ h form

pub returns-clause-rows : goal.returns-clause-rows
returns-clause-rows g c =
    let rows : map g.R.Row.literals c.into_rows.result.items ≡ c.args.f.now.rows = c.into_rows.ensures.items ∙ ap (λ (s : Shape). s.rows) c.in_ok-copied.ensures in
    let form : IsFactored c.args.f.now.rows c.of.result.form = rw (c.of.ensures, ← rows) c.in_ok-tree.ensures in
    expansion_of-rows _ _ form

pub returns-clause-most : goal.returns-clause-most
returns-clause-most g c =
    let rows : map g.R.Row.literals c.into_rows.result.items ≡ c.args.f.now.rows = c.into_rows.ensures.items ∙ ap (λ (s : Shape). s.rows) c.in_ok-copied.ensures in
    let form : IsFactored c.args.f.now.rows c.of.result.form = rw (c.of.ensures, ← rows) c.in_ok-tree.ensures in
    literals-most _ _ form

pub returns-clause-fewer : goal.returns-clause-fewer
returns-clause-fewer g c =
    let rows : map g.R.Row.literals c.into_rows.result.items ≡ c.args.f.now.rows = c.into_rows.ensures.items ∙ ap (λ (s : Shape). s.rows) c.in_ok-copied.ensures in
    let form : IsFactored c.args.f.now.rows c.of.result.form = rw (c.of.ensures, ← rows) c.in_ok-tree.ensures in
    fewer_where _ _ form

pub returns-clause-equal : goal.returns-clause-equal
returns-clause-equal g c =
    let rows : map g.R.Row.literals c.into_rows.result.items ≡ c.args.f.now.rows = c.into_rows.ensures.items ∙ ap (λ (s : Shape). s.rows) c.in_ok-copied.ensures in
    let form : IsFactored c.args.f.now.rows c.of.result.form = rw (c.of.ensures, ← rows) c.in_ok-tree.ensures in
    equal_where _ _ form

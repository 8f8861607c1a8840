use Rattle.std.proofs.Common.{◌≡◌, map, refl, sym, ap, ◌∙◌}
use Rattle.std.proofs.Common.{Bor, Err}
use Rattle.std.proofs.lemmas.Result.{err_from_is_err_and}
use Rattle.cover_ops.specs.declared.list.ListFault.TheVariants.{CubeLimit}
use Rattle.cover_ops.specs.Shannon.{list_rows}
use Rattle.cover_ops.specs.Halves.{list_from}
use Rattle.cover_ops.proofs.Joins.{list_from_first, list_value, HasWidth-list_rows}
use Rattle.cover_ops.proofs.list.on_list.Goals as goal

pub returns-in_err-list-clause-limit : goal.returns-in_err-list-clause-limit
returns-in_err-list-clause-limit g c = λ z.
    let p = err_from_is_err_and c.from_residual-in_err-list.result c.from_residual-in_err-list.ensures.1 in
    let q : p.0 ≡ CubeLimit = cc in
    let rows : map (λ (x : Bor g.row.R.Denot). g.R.Row.literals x.now) c.as_slice.result.now ≡ c.args.f.now.rows = rw c.as_slice.ensures.value (c.in_ok-rows.ensures ∙ c.rows.ensures.items) in
    let e : list_from 0 c.width-width.result c.args.phase (map (λ (x : Bor g.row.R.Denot). g.R.Row.literals x.now) c.as_slice.result.now) ≡ list_rows c.args.f.now.width c.args.phase c.args.f.now.rows = rw (rows, c.width-width.ensures) (list_from_first _ _ _) in
    rw (← e) (c.in_err-list.ensures.limit (ap Err (sym p.2 ∙ q)))

pub of-requires : goal.of-requires
of-requires g c =
    let rows : map (λ (x : Bor g.row.R.Denot). g.R.Row.literals x.now) c.as_slice.result.now ≡ c.args.f.now.rows = rw c.as_slice.ensures.value (c.in_ok-rows.ensures ∙ c.rows.ensures.items) in
    let e : list_from 0 c.width-width.result c.args.phase (map (λ (x : Bor g.row.R.Denot). g.R.Row.literals x.now) c.as_slice.result.now) ≡ list_rows c.args.f.now.width c.args.phase c.args.f.now.rows = rw (rows, c.width-width.ensures) (list_from_first _ _ _) in
    rw (c.in_ok-list.ensures.ok, e, c.width-width.ensures) (HasWidth-list_rows c.args.f.now.width c.args.phase c.args.f.now.rows)

pub returns-clause-ok : goal.returns-clause-ok
returns-clause-ok g c =
    let rows : map (λ (x : Bor g.row.R.Denot). g.R.Row.literals x.now) c.as_slice.result.now ≡ c.args.f.now.rows = rw c.as_slice.ensures.value (c.in_ok-rows.ensures ∙ c.rows.ensures.items) in
    let e : list_from 0 c.width-width.result c.args.phase (map (λ (x : Bor g.row.R.Denot). g.R.Row.literals x.now) c.as_slice.result.now) ≡ list_rows c.args.f.now.width c.args.phase c.args.f.now.rows = rw (rows, c.width-width.ensures) (list_from_first _ _ _) in
    rw (c.of.ensures, c.in_ok-list.ensures.ok, e, c.width-width.ensures) refl

pub returns-clause-value : goal.returns-clause-value
returns-clause-value g c = λ point d.
    let rows : map (λ (x : Bor g.row.R.Denot). g.R.Row.literals x.now) c.as_slice.result.now ≡ c.args.f.now.rows = rw c.as_slice.ensures.value (c.in_ok-rows.ensures ∙ c.rows.ensures.items) in
    let e : list_from 0 c.width-width.result c.args.phase (map (λ (x : Bor g.row.R.Denot). g.R.Row.literals x.now) c.as_slice.result.now) ≡ list_rows c.args.f.now.width c.args.phase c.args.f.now.rows = rw (rows, c.width-width.ensures) (list_from_first _ _ _) in
    rw (c.of.ensures, c.in_ok-list.ensures.ok, e) (list_value c.args.f.now.width c.args.phase c.args.f.now.rows point d)

pub returns-clause-within : goal.returns-clause-within
returns-clause-within g c =
    let rows : map (λ (x : Bor g.row.R.Denot). g.R.Row.literals x.now) c.as_slice.result.now ≡ c.args.f.now.rows = rw c.as_slice.ensures.value (c.in_ok-rows.ensures ∙ c.rows.ensures.items) in
    let e : list_from 0 c.width-width.result c.args.phase (map (λ (x : Bor g.row.R.Denot). g.R.Row.literals x.now) c.as_slice.result.now) ≡ list_rows c.args.f.now.width c.args.phase c.args.f.now.rows = rw (rows, c.width-width.ensures) (list_from_first _ _ _) in
    rw (← e) c.in_ok-list.ensures.within

use Rattle.std.proofs.Common.{◌≡◌, ℕ, ◌<◌, ◌+◌, ◌-◌, Bool, Option, None, List, [], ◌++◌, length, map, drop, sym, ap, ◌∙◌, subst, arith}
use Rattle.std.proofs.Common.{Err, get_or, append_assoc, append-nil, length-append}
use Rattle.std.proofs.lemmas.Result.{err_from_is_err_and}
use Rattle.std.proofs.lemmas.List.{length-map, drop_all}
use Rattle.sis_base.specs.Rows.{HasWidth}
use Rattle.cube_cover.proofs.Points.{width_read}
use Rattle.cover_ops.specs.declared.list.ListFault.TheVariants.{CubeLimit}
use Rattle.cover_ops.specs.Composed.{outer_row, composed_row, composed_rows}
use Rattle.cover_ops.proofs.Compositions.{composed_there}
use Rattle.cover_ops.proofs.composing.all_composed.Goals as goal

pub with_composed-requires-clause-x : goal.with_composed-requires-clause-x
with_composed-requires-clause-x g c =
    let e : length (g.R.Row.literals c.row-item.result) ≡ c.args.width = width_read g.R.Row.literals c.args.width c.args.rows.now c.loop-row.row-index c.row-item.result c.requires.widths (omega arith) c.row-item.is in
    omega (arith, e, c.requires.x)

pub with_composed-requires-clause-fits : goal.with_composed-requires-clause-fits
with_composed-requires-clause-fits g c =
    let e : length (g.R.Row.literals c.row-item.result) ≡ c.args.width = width_read g.R.Row.literals c.args.width c.args.rows.now c.loop-row.row-index c.row-item.result c.requires.widths (omega arith) c.row-item.is in
    omega (arith, e, c.requires.fits)

pub with_composed-requires-clause-on : goal.with_composed-requires-clause-on
with_composed-requires-clause-on g c =
    let e : length (g.R.Row.literals c.row-item.result) ≡ c.args.width = width_read g.R.Row.literals c.args.width c.args.rows.now c.loop-row.row-index c.row-item.result c.requires.widths (omega arith) c.row-item.is in
    subst (λ (n : ℕ). HasWidth (n + c.args.added - 1) (map g.R.Row.literals c.args.on.now)) (sym e) c.requires.on

pub with_composed-requires-clause-off : goal.with_composed-requires-clause-off
with_composed-requires-clause-off g c =
    let e : length (g.R.Row.literals c.row-item.result) ≡ c.args.width = width_read g.R.Row.literals c.args.width c.args.rows.now c.loop-row.row-index c.row-item.result c.requires.widths (omega arith) c.row-item.is in
    subst (λ (n : ℕ). HasWidth (n + c.args.added - 1) (map g.R.Row.literals c.args.off.now)) (sym e) c.requires.off

pub returns-in_err-made-clause-limit : goal.returns-in_err-made-clause-limit
returns-in_err-made-clause-limit g c = λ z.
    let p = err_from_is_err_and c.from_residual.result c.from_residual.ensures.1 in
    let q : p.0 ≡ CubeLimit = cc in
    let step : composed_rows c.args.x c.args.added (map g.R.Row.literals c.args.on.now) (map g.R.Row.literals c.args.off.now) (map g.R.Row.literals (drop c.loop-row.row-index c.args.rows.now)) ≡ (composed_row (get_or (g.R.Row.literals c.row-item.result) c.args.x None) (outer_row c.args.x c.args.added (g.R.Row.literals c.row-item.result)) (map g.R.Row.literals c.args.on.now) (map g.R.Row.literals c.args.off.now)) ++ composed_rows c.args.x c.args.added (map g.R.Row.literals c.args.on.now) (map g.R.Row.literals c.args.off.now) (map g.R.Row.literals (drop (c.loop-row.row-index + 1) c.args.rows.now)) =
    composed_there g.R.Row.literals c.args.x c.args.added (map g.R.Row.literals c.args.on.now) (map g.R.Row.literals c.args.off.now) c.args.rows.now c.loop-row.row-index c.row-item.result (omega arith) c.row-item.is in
    let h : c.args.limit < length c.loop-row.made.items + length (composed_row (get_or (g.R.Row.literals c.row-item.result) c.args.x None) (outer_row c.args.x c.args.added (g.R.Row.literals c.row-item.result)) (map g.R.Row.literals c.args.on.now) (map g.R.Row.literals c.args.off.now)) = c.in_err-made.ensures.limit (ap Err (sym p.2 ∙ q)) in
    let whole : length c.loop-row.made.items + length (composed_rows c.args.x c.args.added (map g.R.Row.literals c.args.on.now) (map g.R.Row.literals c.args.off.now) (map g.R.Row.literals (drop c.loop-row.row-index c.args.rows.now))) ≡ length (composed_rows c.args.x c.args.added (map g.R.Row.literals c.args.on.now) (map g.R.Row.literals c.args.off.now) (map g.R.Row.literals c.args.rows.now)) =
    omega (arith, sym (length-append (map g.R.Row.literals c.loop-row.made.items) (composed_rows c.args.x c.args.added (map g.R.Row.literals c.args.on.now) (map g.R.Row.literals c.args.off.now) (map g.R.Row.literals (drop c.loop-row.row-index c.args.rows.now)))) ∙ ap length c.loop-row.invariant.0, length-map c.loop-row.made.items g.R.Row.literals) in
    let parts : length (composed_rows c.args.x c.args.added (map g.R.Row.literals c.args.on.now) (map g.R.Row.literals c.args.off.now) (map g.R.Row.literals (drop c.loop-row.row-index c.args.rows.now))) ≡ length (composed_row (get_or (g.R.Row.literals c.row-item.result) c.args.x None) (outer_row c.args.x c.args.added (g.R.Row.literals c.row-item.result)) (map g.R.Row.literals c.args.on.now) (map g.R.Row.literals c.args.off.now)) + length (composed_rows c.args.x c.args.added (map g.R.Row.literals c.args.on.now) (map g.R.Row.literals c.args.off.now) (map g.R.Row.literals (drop (c.loop-row.row-index + 1) c.args.rows.now))) =
    ap length step ∙ length-append (composed_row (get_or (g.R.Row.literals c.row-item.result) c.args.x None) (outer_row c.args.x c.args.added (g.R.Row.literals c.row-item.result)) (map g.R.Row.literals c.args.on.now) (map g.R.Row.literals c.args.off.now)) (composed_rows c.args.x c.args.added (map g.R.Row.literals c.args.on.now) (map g.R.Row.literals c.args.off.now) (map g.R.Row.literals (drop (c.loop-row.row-index + 1) c.args.rows.now))) in
    omega (arith, h, whole, parts)

pub loop-row-preserved : goal.loop-row-preserved
loop-row-preserved g c =
    let step : composed_rows c.args.x c.args.added (map g.R.Row.literals c.args.on.now) (map g.R.Row.literals c.args.off.now) (map g.R.Row.literals (drop c.loop-row.row-index c.args.rows.now)) ≡ (composed_row (get_or (g.R.Row.literals c.row-item.result) c.args.x None) (outer_row c.args.x c.args.added (g.R.Row.literals c.row-item.result)) (map g.R.Row.literals c.args.on.now) (map g.R.Row.literals c.args.off.now)) ++ composed_rows c.args.x c.args.added (map g.R.Row.literals c.args.on.now) (map g.R.Row.literals c.args.off.now) (map g.R.Row.literals (drop (c.loop-row.row-index + 1) c.args.rows.now)) =
    composed_there g.R.Row.literals c.args.x c.args.added (map g.R.Row.literals c.args.on.now) (map g.R.Row.literals c.args.off.now) c.args.rows.now c.loop-row.row-index c.row-item.result (omega arith) c.row-item.is in (
      rw c.in_ok-made.ensures.ok (append_assoc (map g.R.Row.literals c.loop-row.made.items) (composed_row (get_or (g.R.Row.literals c.row-item.result) c.args.x None) (outer_row c.args.x c.args.added (g.R.Row.literals c.row-item.result)) (map g.R.Row.literals c.args.on.now) (map g.R.Row.literals c.args.off.now)) (composed_rows c.args.x c.args.added (map g.R.Row.literals c.args.on.now) (map g.R.Row.literals c.args.off.now) (map g.R.Row.literals (drop (c.loop-row.row-index + 1) c.args.rows.now)))
          ∙ ap (λ (t : List (List (Option Bool))). map g.R.Row.literals c.loop-row.made.items ++ t) (sym step) ∙ c.loop-row.invariant.0),
      c.in_ok-made.ensures.within,
    )

pub returns-clause-ok : goal.returns-clause-ok
unfolding composed_rows
returns-clause-ok g c =
    let d : drop c.loop-row.row-index c.args.rows.now ≡ [] = drop_all c.loop-row.row-index c.args.rows.now (omega arith) in
    sym (append-nil (map g.R.Row.literals c.loop-row.made.items)) ∙ (rw d at c.loop-row.invariant.0)

pub returns-clause-within : goal.returns-clause-within
unfolding composed_rows
returns-clause-within g c =
    let d : drop c.loop-row.row-index c.args.rows.now ≡ [] = drop_all c.loop-row.row-index c.args.rows.now (omega arith) in
    let k : length (map g.R.Row.literals c.loop-row.made.items) ≡ length (composed_rows c.args.x c.args.added (map g.R.Row.literals c.args.on.now) (map g.R.Row.literals c.args.off.now) (map g.R.Row.literals c.args.rows.now)) = ap length (sym (append-nil (map g.R.Row.literals c.loop-row.made.items)) ∙ (rw d at c.loop-row.invariant.0)) in
    omega (arith, k, length-map c.loop-row.made.items g.R.Row.literals, c.loop-row.invariant.1)

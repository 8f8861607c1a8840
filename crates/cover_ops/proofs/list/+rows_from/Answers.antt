use Rattle.std.proofs.Common.{◌≡◌, ◌<◌, ◌+◌, ◌-◌, Bool, true, false, Option, List, length, map, sym, ap, ◌∙◌, arith}
use Rattle.std.proofs.Common.{Bor, not, Err}
use Rattle.std.proofs.lemmas.Result.{err_from_is_err_and}
use Rattle.std.proofs.lemmas.List.{length-map, nil_from_length}
use Rattle.cover_ops.specs.declared.list.ListFault.TheVariants.{CubeLimit}
use Rattle.cube_cover.specs.Covers.{agreeing_rows}
use Rattle.cover_ops.specs.Halves.{constant_list, list_from}
use Rattle.cover_ops.proofs.Joins.{empty_at, free_at, last_at, skipped_at, half_at, sum_at, joined_at, HasWidth-part, HasWidth-list_from}
use Rattle.cover_ops.proofs.list.+rows_from.Goals as goal

pub returns-then-rows-eq0-clause-ok : goal.returns-then-rows-eq0-clause-ok
returns-then-rows-eq0-clause-ok g t c =
    let e : list_from c.args.place c.args.left c.args.phase (map (λ (x : Bor g.row.R.Denot). g.R.Row.literals x.now) c.args.rows.now) ≡ constant_list c.args.width (not c.args.phase) = empty_at c.args.width c.args.place c.args.left c.args.phase (map (λ (x : Bor g.row.R.Denot). g.R.Row.literals x.now) c.args.rows.now) (ap (map (λ (x : Bor g.row.R.Denot). g.R.Row.literals x.now)) (nil_from_length c.args.rows.now (omega arith))) c.requires.places in
    rw e c.constant_rows.ensures.ok

pub returns-then-rows-eq0-clause-within : goal.returns-then-rows-eq0-clause-within
returns-then-rows-eq0-clause-within g t c =
    let e : list_from c.args.place c.args.left c.args.phase (map (λ (x : Bor g.row.R.Denot). g.R.Row.literals x.now) c.args.rows.now) ≡ constant_list c.args.width (not c.args.phase) = empty_at c.args.width c.args.place c.args.left c.args.phase (map (λ (x : Bor g.row.R.Denot). g.R.Row.literals x.now) c.args.rows.now) (ap (map (λ (x : Bor g.row.R.Denot). g.R.Row.literals x.now)) (nil_from_length c.args.rows.now (omega arith))) c.requires.places in
    rw e c.constant_rows.ensures.within

pub returns-then-rows-eq0-clause-limit : goal.returns-then-rows-eq0-clause-limit
returns-then-rows-eq0-clause-limit g t c =
    let e : list_from c.args.place c.args.left c.args.phase (map (λ (x : Bor g.row.R.Denot). g.R.Row.literals x.now) c.args.rows.now) ≡ constant_list c.args.width (not c.args.phase) = empty_at c.args.width c.args.place c.args.left c.args.phase (map (λ (x : Bor g.row.R.Denot). g.R.Row.literals x.now) c.args.rows.now) (ap (map (λ (x : Bor g.row.R.Denot). g.R.Row.literals x.now)) (nil_from_length c.args.rows.now (omega arith))) c.requires.places in
    rw e c.constant_rows.ensures.limit

pub returns-then-left-eq0-clause-ok : goal.returns-then-left-eq0-clause-ok
returns-then-left-eq0-clause-ok g t c =
    let e : list_from c.args.place c.args.left c.args.phase (map (λ (x : Bor g.row.R.Denot). g.R.Row.literals x.now) c.args.rows.now) ≡ constant_list c.args.width c.args.phase = last_at c.args.width c.args.place c.args.left c.args.phase (map (λ (x : Bor g.row.R.Denot). g.R.Row.literals x.now) c.args.rows.now) c.requires.widths (rw (length-map c.args.rows.now (λ (x : Bor g.row.R.Denot). g.R.Row.literals x.now)) (omega arith)) (omega arith) c.requires.places in
    rw e c.constant_rows-then-left-eq0.ensures.ok

pub returns-then-left-eq0-clause-within : goal.returns-then-left-eq0-clause-within
returns-then-left-eq0-clause-within g t c =
    let e : list_from c.args.place c.args.left c.args.phase (map (λ (x : Bor g.row.R.Denot). g.R.Row.literals x.now) c.args.rows.now) ≡ constant_list c.args.width c.args.phase = last_at c.args.width c.args.place c.args.left c.args.phase (map (λ (x : Bor g.row.R.Denot). g.R.Row.literals x.now) c.args.rows.now) c.requires.widths (rw (length-map c.args.rows.now (λ (x : Bor g.row.R.Denot). g.R.Row.literals x.now)) (omega arith)) (omega arith) c.requires.places in
    rw e c.constant_rows-then-left-eq0.ensures.within

pub returns-then-left-eq0-clause-limit : goal.returns-then-left-eq0-clause-limit
returns-then-left-eq0-clause-limit g t c =
    let e : list_from c.args.place c.args.left c.args.phase (map (λ (x : Bor g.row.R.Denot). g.R.Row.literals x.now) c.args.rows.now) ≡ constant_list c.args.width c.args.phase = last_at c.args.width c.args.place c.args.left c.args.phase (map (λ (x : Bor g.row.R.Denot). g.R.Row.literals x.now) c.args.rows.now) c.requires.widths (rw (length-map c.args.rows.now (λ (x : Bor g.row.R.Denot). g.R.Row.literals x.now)) (omega arith)) (omega arith) c.requires.places in
    rw e c.constant_rows-then-left-eq0.ensures.limit

pub returns-then-some_free-clause-ok : goal.returns-then-some_free-clause-ok
returns-then-some_free-clause-ok g t c =
    let e : list_from c.args.place c.args.left c.args.phase (map (λ (x : Bor g.row.R.Denot). g.R.Row.literals x.now) c.args.rows.now) ≡ constant_list c.args.width c.args.phase = free_at c.args.width c.args.place c.args.left c.args.phase (map (λ (x : Bor g.row.R.Denot). g.R.Row.literals x.now) c.args.rows.now) (sym c.some_free.ensures ∙ c.if-some_free.true) c.requires.places in
    rw e c.constant_rows-then-some_free.ensures.ok

pub returns-then-some_free-clause-within : goal.returns-then-some_free-clause-within
returns-then-some_free-clause-within g t c =
    let e : list_from c.args.place c.args.left c.args.phase (map (λ (x : Bor g.row.R.Denot). g.R.Row.literals x.now) c.args.rows.now) ≡ constant_list c.args.width c.args.phase = free_at c.args.width c.args.place c.args.left c.args.phase (map (λ (x : Bor g.row.R.Denot). g.R.Row.literals x.now) c.args.rows.now) (sym c.some_free.ensures ∙ c.if-some_free.true) c.requires.places in
    rw e c.constant_rows-then-some_free.ensures.within

pub returns-then-some_free-clause-limit : goal.returns-then-some_free-clause-limit
returns-then-some_free-clause-limit g t c =
    let e : list_from c.args.place c.args.left c.args.phase (map (λ (x : Bor g.row.R.Denot). g.R.Row.literals x.now) c.args.rows.now) ≡ constant_list c.args.width c.args.phase = free_at c.args.width c.args.place c.args.left c.args.phase (map (λ (x : Bor g.row.R.Denot). g.R.Row.literals x.now) c.args.rows.now) (sym c.some_free.ensures ∙ c.if-some_free.true) c.requires.places in
    rw e c.constant_rows-then-some_free.ensures.limit

pub returns-then-not-any_literal-clause-ok : goal.returns-then-not-any_literal-clause-ok
returns-then-not-any_literal-clause-ok g t c =
    let e : list_from c.args.place c.args.left c.args.phase (map (λ (x : Bor g.row.R.Denot). g.R.Row.literals x.now) c.args.rows.now) ≡ list_from (c.args.place + 1) (c.args.left - 1) c.args.phase (map (λ (x : Bor g.row.R.Denot). g.R.Row.literals x.now) c.args.rows.now) = skipped_at c.args.width c.args.place c.args.left c.args.phase (map (λ (x : Bor g.row.R.Denot). g.R.Row.literals x.now) c.args.rows.now) c.requires.widths (omega arith) c.requires.places (sym c.any_literal.ensures ∙ c.if-not-any_literal.true) in
    rw e c.rows_from.ensures.ok

pub returns-then-not-any_literal-clause-within : goal.returns-then-not-any_literal-clause-within
returns-then-not-any_literal-clause-within g t c =
    let e : list_from c.args.place c.args.left c.args.phase (map (λ (x : Bor g.row.R.Denot). g.R.Row.literals x.now) c.args.rows.now) ≡ list_from (c.args.place + 1) (c.args.left - 1) c.args.phase (map (λ (x : Bor g.row.R.Denot). g.R.Row.literals x.now) c.args.rows.now) = skipped_at c.args.width c.args.place c.args.left c.args.phase (map (λ (x : Bor g.row.R.Denot). g.R.Row.literals x.now) c.args.rows.now) c.requires.widths (omega arith) c.requires.places (sym c.any_literal.ensures ∙ c.if-not-any_literal.true) in
    rw e c.rows_from.ensures.within

pub returns-then-not-any_literal-clause-limit : goal.returns-then-not-any_literal-clause-limit
returns-then-not-any_literal-clause-limit g t c =
    let e : list_from c.args.place c.args.left c.args.phase (map (λ (x : Bor g.row.R.Denot). g.R.Row.literals x.now) c.args.rows.now) ≡ list_from (c.args.place + 1) (c.args.left - 1) c.args.phase (map (λ (x : Bor g.row.R.Denot). g.R.Row.literals x.now) c.args.rows.now) = skipped_at c.args.width c.args.place c.args.left c.args.phase (map (λ (x : Bor g.row.R.Denot). g.R.Row.literals x.now) c.args.rows.now) c.requires.widths (omega arith) c.requires.places (sym c.any_literal.ensures ∙ c.if-not-any_literal.true) in
    rw e c.rows_from.ensures.limit

pub rows_from-requires-2 : goal.rows_from-requires-2
rows_from-requires-2 g t c κs within =
    let low : map (λ (x : Bor g.row.R.Denot). g.R.Row.literals x.now) c.as_slice-lows.result.now ≡ agreeing_rows c.args.place false (map (λ (x : Bor g.row.R.Denot). g.R.Row.literals x.now) c.args.rows.now) = rw c.as_slice-lows.ensures.value c.in_ok-low_rows.ensures in
    (omega (arith, c.decreases), (within, (rw low (HasWidth-part _ _ _ _ c.requires.widths), omega (arith, c.requires.places))))

pub rows_from-requires-3 : goal.rows_from-requires-3
rows_from-requires-3 g t c κs within =
    let high : map (λ (x : Bor g.row.R.Denot). g.R.Row.literals x.now) c.as_slice-highs.result.now ≡ agreeing_rows c.args.place true (map (λ (x : Bor g.row.R.Denot). g.R.Row.literals x.now) c.args.rows.now) = rw c.as_slice-highs.ensures.value c.in_ok-high_rows.ensures in
    (omega (arith, c.decreases), (within, (rw high (HasWidth-part _ _ _ _ c.requires.widths), omega (arith, c.requires.places))))

pub returns-in_err-low-clause-limit : goal.returns-in_err-low-clause-limit
returns-in_err-low-clause-limit g t c = λ e.
    let p = err_from_is_err_and c.from_residual-in_err-low.result c.from_residual-in_err-low.ensures.1 in
    let q : p.0 ≡ CubeLimit = cc in
    let low : map (λ (x : Bor g.row.R.Denot). g.R.Row.literals x.now) c.as_slice-lows.result.now ≡ agreeing_rows c.args.place false (map (λ (x : Bor g.row.R.Denot). g.R.Row.literals x.now) c.args.rows.now) = rw c.as_slice-lows.ensures.value c.in_ok-low_rows.ensures in
    let h : c.args.limit < length (list_from (c.args.place + 1) (c.args.left - 1) c.args.phase (agreeing_rows c.args.place false (map (λ (x : Bor g.row.R.Denot). g.R.Row.literals x.now) c.args.rows.now))) = rw (← low) (c.in_err-low.ensures.limit (ap Err (sym p.2 ∙ q))) in
    omega (arith, half_at c.args.width c.args.place c.args.left c.args.phase (map (λ (x : Bor g.row.R.Denot). g.R.Row.literals x.now) c.args.rows.now) false c.requires.widths (omega arith) c.requires.places, h)

pub returns-in_err-high-clause-limit : goal.returns-in_err-high-clause-limit
returns-in_err-high-clause-limit g t c = λ e.
    let p = err_from_is_err_and c.from_residual-in_err-high.result c.from_residual-in_err-high.ensures.1 in
    let q : p.0 ≡ CubeLimit = cc in
    let high : map (λ (x : Bor g.row.R.Denot). g.R.Row.literals x.now) c.as_slice-highs.result.now ≡ agreeing_rows c.args.place true (map (λ (x : Bor g.row.R.Denot). g.R.Row.literals x.now) c.args.rows.now) = rw c.as_slice-highs.ensures.value c.in_ok-high_rows.ensures in
    let h : c.args.limit < length (list_from (c.args.place + 1) (c.args.left - 1) c.args.phase (agreeing_rows c.args.place true (map (λ (x : Bor g.row.R.Denot). g.R.Row.literals x.now) c.args.rows.now))) = rw (← high) (c.in_err-high.ensures.limit (ap Err (sym p.2 ∙ q))) in
    omega (arith, half_at c.args.width c.args.place c.args.left c.args.phase (map (λ (x : Bor g.row.R.Denot). g.R.Row.literals x.now) c.args.rows.now) true c.requires.widths (omega arith) c.requires.places, h)

pub join_halves-requires-clause-low : goal.join_halves-requires-clause-low
join_halves-requires-clause-low g t c =
    rw c.in_ok-low.ensures.ok (HasWidth-list_from c.args.width (c.args.place + 1) (c.args.left - 1) c.args.phase _ (omega (arith, c.requires.places)))

pub join_halves-requires-clause-high : goal.join_halves-requires-clause-high
join_halves-requires-clause-high g t c =
    rw c.in_ok-high.ensures.ok (HasWidth-list_from c.args.width (c.args.place + 1) (c.args.left - 1) c.args.phase _ (omega (arith, c.requires.places)))

pub returns-in_err-list-clause-limit : goal.returns-in_err-list-clause-limit
returns-in_err-list-clause-limit g t c = λ e.
    let p = err_from_is_err_and c.from_residual-in_err-list.result c.from_residual-in_err-list.ensures.1 in
    let q : p.0 ≡ CubeLimit = cc in
    let low : map (λ (x : Bor g.row.R.Denot). g.R.Row.literals x.now) c.as_slice-lows.result.now ≡ agreeing_rows c.args.place false (map (λ (x : Bor g.row.R.Denot). g.R.Row.literals x.now) c.args.rows.now) = rw c.as_slice-lows.ensures.value c.in_ok-low_rows.ensures in
    let lows : map g.R.Row.literals c.in_ok-low.low.items ≡ (list_from (c.args.place + 1) (c.args.left - 1) c.args.phase (agreeing_rows c.args.place false (map (λ (x : Bor g.row.R.Denot). g.R.Row.literals x.now) c.args.rows.now))) = rw (← low) c.in_ok-low.ensures.ok in
    let high : map (λ (x : Bor g.row.R.Denot). g.R.Row.literals x.now) c.as_slice-highs.result.now ≡ agreeing_rows c.args.place true (map (λ (x : Bor g.row.R.Denot). g.R.Row.literals x.now) c.args.rows.now) = rw c.as_slice-highs.ensures.value c.in_ok-high_rows.ensures in
    let highs : map g.R.Row.literals c.in_ok-high.high.items ≡ (list_from (c.args.place + 1) (c.args.left - 1) c.args.phase (agreeing_rows c.args.place true (map (λ (x : Bor g.row.R.Denot). g.R.Row.literals x.now) c.args.rows.now))) = rw (← high) c.in_ok-high.ensures.ok in
    let h = c.in_err-list.ensures.limit (ap Err (sym p.2 ∙ q)) in
    let s : length c.in_ok-low.low.items ≡ length (list_from (c.args.place + 1) (c.args.left - 1) c.args.phase (agreeing_rows c.args.place false (map (λ (x : Bor g.row.R.Denot). g.R.Row.literals x.now) c.args.rows.now))) = sym (length-map c.in_ok-low.low.items g.R.Row.literals) ∙ ap length lows in
    let k : length c.in_ok-high.high.items ≡ length (list_from (c.args.place + 1) (c.args.left - 1) c.args.phase (agreeing_rows c.args.place true (map (λ (x : Bor g.row.R.Denot). g.R.Row.literals x.now) c.args.rows.now))) = sym (length-map c.in_ok-high.high.items g.R.Row.literals) ∙ ap length highs in
    omega (arith, sum_at c.args.width c.args.place c.args.left c.args.phase (map (λ (x : Bor g.row.R.Denot). g.R.Row.literals x.now) c.args.rows.now) c.requires.widths (omega arith) c.requires.places (λ d. h.0 (lows ∙ d ∙ sym highs)), h.1, s, k)

pub returns-clause-ok : goal.returns-clause-ok
returns-clause-ok g t c =
    let low : map (λ (x : Bor g.row.R.Denot). g.R.Row.literals x.now) c.as_slice-lows.result.now ≡ agreeing_rows c.args.place false (map (λ (x : Bor g.row.R.Denot). g.R.Row.literals x.now) c.args.rows.now) = rw c.as_slice-lows.ensures.value c.in_ok-low_rows.ensures in
    let lows : map g.R.Row.literals c.in_ok-low.low.items ≡ (list_from (c.args.place + 1) (c.args.left - 1) c.args.phase (agreeing_rows c.args.place false (map (λ (x : Bor g.row.R.Denot). g.R.Row.literals x.now) c.args.rows.now))) = rw (← low) c.in_ok-low.ensures.ok in
    let high : map (λ (x : Bor g.row.R.Denot). g.R.Row.literals x.now) c.as_slice-highs.result.now ≡ agreeing_rows c.args.place true (map (λ (x : Bor g.row.R.Denot). g.R.Row.literals x.now) c.args.rows.now) = rw c.as_slice-highs.ensures.value c.in_ok-high_rows.ensures in
    let highs : map g.R.Row.literals c.in_ok-high.high.items ≡ (list_from (c.args.place + 1) (c.args.left - 1) c.args.phase (agreeing_rows c.args.place true (map (λ (x : Bor g.row.R.Denot). g.R.Row.literals x.now) c.args.rows.now))) = rw (← high) c.in_ok-high.ensures.ok in
    let made : List (List (Option Bool)) = map g.R.Row.literals c.in_ok-list.list.items in
    joined_at c.args.width c.args.place c.args.left c.args.phase (map (λ (x : Bor g.row.R.Denot). g.R.Row.literals x.now) c.args.rows.now) (map g.R.Row.literals c.in_ok-list.list.items) c.requires.widths (omega arith) c.requires.places
    (rw (← lows, ← highs) c.in_ok-list.ensures.ok)

pub returns-clause-within : goal.returns-clause-within
returns-clause-within g t c =
    let low : map (λ (x : Bor g.row.R.Denot). g.R.Row.literals x.now) c.as_slice-lows.result.now ≡ agreeing_rows c.args.place false (map (λ (x : Bor g.row.R.Denot). g.R.Row.literals x.now) c.args.rows.now) = rw c.as_slice-lows.ensures.value c.in_ok-low_rows.ensures in
    let lows : map g.R.Row.literals c.in_ok-low.low.items ≡ (list_from (c.args.place + 1) (c.args.left - 1) c.args.phase (agreeing_rows c.args.place false (map (λ (x : Bor g.row.R.Denot). g.R.Row.literals x.now) c.args.rows.now))) = rw (← low) c.in_ok-low.ensures.ok in
    let high : map (λ (x : Bor g.row.R.Denot). g.R.Row.literals x.now) c.as_slice-highs.result.now ≡ agreeing_rows c.args.place true (map (λ (x : Bor g.row.R.Denot). g.R.Row.literals x.now) c.args.rows.now) = rw c.as_slice-highs.ensures.value c.in_ok-high_rows.ensures in
    let highs : map g.R.Row.literals c.in_ok-high.high.items ≡ (list_from (c.args.place + 1) (c.args.left - 1) c.args.phase (agreeing_rows c.args.place true (map (λ (x : Bor g.row.R.Denot). g.R.Row.literals x.now) c.args.rows.now))) = rw (← high) c.in_ok-high.ensures.ok in
    let whole : map g.R.Row.literals c.in_ok-list.list.items ≡ list_from c.args.place c.args.left c.args.phase (map (λ (x : Bor g.row.R.Denot). g.R.Row.literals x.now) c.args.rows.now) =
    joined_at c.args.width c.args.place c.args.left c.args.phase (map (λ (x : Bor g.row.R.Denot). g.R.Row.literals x.now) c.args.rows.now) (map g.R.Row.literals c.in_ok-list.list.items) c.requires.widths (omega arith) c.requires.places (rw (← lows, ← highs) c.in_ok-list.ensures.ok) in
    let s : length c.in_ok-list.list.items ≡ length (list_from c.args.place c.args.left c.args.phase (map (λ (x : Bor g.row.R.Denot). g.R.Row.literals x.now) c.args.rows.now)) = sym (length-map c.in_ok-list.list.items g.R.Row.literals) ∙ ap length whole in
    omega (arith, s, c.in_ok-list.ensures.within)

use Rattle.std.proofs.Common.{◌≡◌, ◌+◌, ◌-◌, true, false, length, map, refl, sym, ap, ◌∙◌, arith}
use Rattle.std.proofs.Common.{Err, inl, inr}
use Rattle.std.proofs.lemmas.Result.{err_from_is_err_and}
use Rattle.cover_ops.specs.declared.list.ListFault.TheVariants.{CubeLimit}
use Rattle.cover_ops.specs.Shannon.{list_rows}
use Rattle.cover_ops.specs.Composed.{count_new, targets, asks, composition, composed_rows, placed_rows, cover_for}
use Rattle.cover_ops.proofs.Compositions.{targets_below, length-targets, composed_asked, HasWidth-composition, value-composition, list_within}
use Rattle.cover_ops.proofs.composing.compose.Goals as goal

pub inner_rows-requires-clause-many : goal.inner_rows-requires-clause-many
inner_rows-requires-clause-many g c =
    let n : c.new_inputs-added.result ≡ (count_new c.args.places.now) = c.new_inputs-added.ensures.count in
    let wd : c.in-Some.wide ≡ (c.args.outer.now.width + (count_new c.args.places.now) - 1) = rw (c.in-Some.ensures.0, c.width.ensures, n) refl in
    let at : c.in_ok-at.at.items ≡ (targets c.args.x (count_new c.args.places.now) c.args.x c.args.places.now) = rw (c.in_ok-at.ensures, n) refl in
    rw (c.as_slice.ensures.value, at) (length-targets c.args.x (count_new c.args.places.now) c.args.x c.args.places.now ∙ c.requires.many)

pub inner_rows-requires-clause-below : goal.inner_rows-requires-clause-below
inner_rows-requires-clause-below g c =
    let n : c.new_inputs-added.result ≡ (count_new c.args.places.now) = c.new_inputs-added.ensures.count in
    let wd : c.in-Some.wide ≡ (c.args.outer.now.width + (count_new c.args.places.now) - 1) = rw (c.in-Some.ensures.0, c.width.ensures, n) refl in
    let at : c.in_ok-at.at.items ≡ (targets c.args.x (count_new c.args.places.now) c.args.x c.args.places.now) = rw (c.in_ok-at.ensures, n) refl in
    rw (c.as_slice.ensures.value, at, wd) (targets_below c.args.outer.now.width c.args.x (count_new c.args.places.now) c.args.x c.args.places.now c.requires.entries c.requires.x (omega arith) (omega arith))

pub inner_rows-requires-2-clause-many : goal.inner_rows-requires-2-clause-many
inner_rows-requires-2-clause-many g c =
    let n : c.new_inputs-added.result ≡ (count_new c.args.places.now) = c.new_inputs-added.ensures.count in
    let wd : c.in-Some.wide ≡ (c.args.outer.now.width + (count_new c.args.places.now) - 1) = rw (c.in-Some.ensures.0, c.width.ensures, n) refl in
    let at : c.in_ok-at.at.items ≡ (targets c.args.x (count_new c.args.places.now) c.args.x c.args.places.now) = rw (c.in_ok-at.ensures, n) refl in
    rw (c.as_slice-2.ensures.value, at) (length-targets c.args.x (count_new c.args.places.now) c.args.x c.args.places.now ∙ c.requires.many)

pub inner_rows-requires-2-clause-below : goal.inner_rows-requires-2-clause-below
inner_rows-requires-2-clause-below g c =
    let n : c.new_inputs-added.result ≡ (count_new c.args.places.now) = c.new_inputs-added.ensures.count in
    let wd : c.in-Some.wide ≡ (c.args.outer.now.width + (count_new c.args.places.now) - 1) = rw (c.in-Some.ensures.0, c.width.ensures, n) refl in
    let at : c.in_ok-at.at.items ≡ (targets c.args.x (count_new c.args.places.now) c.args.x c.args.places.now) = rw (c.in_ok-at.ensures, n) refl in
    rw (c.as_slice-2.ensures.value, at, wd) (targets_below c.args.outer.now.width c.args.x (count_new c.args.places.now) c.args.x c.args.places.now c.requires.entries c.requires.x (omega arith) (omega arith))

pub returns-in_err-made-clause-limit : goal.returns-in_err-made-clause-limit
returns-in_err-made-clause-limit g c = λ z.
    let p = err_from_is_err_and c.from_residual-in_err-made.result c.from_residual-in_err-made.ensures.1 in
    let q : p.0 ≡ CubeLimit = cc in
    let n : c.new_inputs-added.result ≡ (count_new c.args.places.now) = c.new_inputs-added.ensures.count in
    let wd : c.in-Some.wide ≡ (c.args.outer.now.width + (count_new c.args.places.now) - 1) = rw (c.in-Some.ensures.0, c.width.ensures, n) refl in
    let at : c.in_ok-at.at.items ≡ (targets c.args.x (count_new c.args.places.now) c.args.x c.args.places.now) = rw (c.in_ok-at.ensures, n) refl in
    let on : asks c.args.x true c.args.outer.now.rows ≡ true → map g.R.Row.literals c.in_ok-on.on.items ≡ placed_rows (c.args.outer.now.width + (count_new c.args.places.now) - 1) (targets c.args.x (count_new c.args.places.now) c.args.x c.args.places.now) (cover_for c.args.inner.now c.args.phase true) = λ t. rw (c.in_ok-on.ensures.ok t, c.as_slice.ensures.value, at, wd) refl in
    let off : asks c.args.x false c.args.outer.now.rows ≡ true → map g.R.Row.literals c.in_ok-off.off.items ≡ placed_rows (c.args.outer.now.width + (count_new c.args.places.now) - 1) (targets c.args.x (count_new c.args.places.now) c.args.x c.args.places.now) (cover_for c.args.inner.now c.args.phase false) = λ t. rw (c.in_ok-off.ensures.ok t, c.as_slice-2.ensures.value, at, wd) refl in
    let eq : composed_rows c.args.x c.new_inputs-added.result (map g.R.Row.literals c.as_slice-3.result.now) (map g.R.Row.literals c.as_slice-4.result.now) (map g.R.Row.literals c.rows.result.now) ≡ (composition c.args.outer.now c.args.x c.args.inner.now c.args.phase c.args.places.now).rows =
    rw (c.as_slice-3.ensures.value, c.as_slice-4.ensures.value, c.rows.ensures.items, n)
    (composed_asked c.args.x (count_new c.args.places.now) (map g.R.Row.literals c.in_ok-on.on.items) (map g.R.Row.literals c.in_ok-off.off.items) (placed_rows (c.args.outer.now.width + (count_new c.args.places.now) - 1) (targets c.args.x (count_new c.args.places.now) c.args.x c.args.places.now) (cover_for c.args.inner.now c.args.phase true)) (placed_rows (c.args.outer.now.width + (count_new c.args.places.now) - 1) (targets c.args.x (count_new c.args.places.now) c.args.x c.args.places.now) (cover_for c.args.inner.now c.args.phase false)) c.args.outer.now.rows on off) in
    inr (rw (← eq) (c.in_err-made.ensures.limit (ap Err (sym p.2 ∙ q))))

pub of-requires : goal.of-requires
of-requires g c =
    let n : c.new_inputs-added.result ≡ (count_new c.args.places.now) = c.new_inputs-added.ensures.count in
    let wd : c.in-Some.wide ≡ (c.args.outer.now.width + (count_new c.args.places.now) - 1) = rw (c.in-Some.ensures.0, c.width.ensures, n) refl in
    let at : c.in_ok-at.at.items ≡ (targets c.args.x (count_new c.args.places.now) c.args.x c.args.places.now) = rw (c.in_ok-at.ensures, n) refl in
    let on : asks c.args.x true c.args.outer.now.rows ≡ true → map g.R.Row.literals c.in_ok-on.on.items ≡ placed_rows (c.args.outer.now.width + (count_new c.args.places.now) - 1) (targets c.args.x (count_new c.args.places.now) c.args.x c.args.places.now) (cover_for c.args.inner.now c.args.phase true) = λ t. rw (c.in_ok-on.ensures.ok t, c.as_slice.ensures.value, at, wd) refl in
    let off : asks c.args.x false c.args.outer.now.rows ≡ true → map g.R.Row.literals c.in_ok-off.off.items ≡ placed_rows (c.args.outer.now.width + (count_new c.args.places.now) - 1) (targets c.args.x (count_new c.args.places.now) c.args.x c.args.places.now) (cover_for c.args.inner.now c.args.phase false) = λ t. rw (c.in_ok-off.ensures.ok t, c.as_slice-2.ensures.value, at, wd) refl in
    let eq : composed_rows c.args.x c.new_inputs-added.result (map g.R.Row.literals c.as_slice-3.result.now) (map g.R.Row.literals c.as_slice-4.result.now) (map g.R.Row.literals c.rows.result.now) ≡ (composition c.args.outer.now c.args.x c.args.inner.now c.args.phase c.args.places.now).rows =
    rw (c.as_slice-3.ensures.value, c.as_slice-4.ensures.value, c.rows.ensures.items, n)
    (composed_asked c.args.x (count_new c.args.places.now) (map g.R.Row.literals c.in_ok-on.on.items) (map g.R.Row.literals c.in_ok-off.off.items) (placed_rows (c.args.outer.now.width + (count_new c.args.places.now) - 1) (targets c.args.x (count_new c.args.places.now) c.args.x c.args.places.now) (cover_for c.args.inner.now c.args.phase true)) (placed_rows (c.args.outer.now.width + (count_new c.args.places.now) - 1) (targets c.args.x (count_new c.args.places.now) c.args.x c.args.places.now) (cover_for c.args.inner.now c.args.phase false)) c.args.outer.now.rows on off) in
    let made : map g.R.Row.literals c.in_ok-made.made.items ≡ (composition c.args.outer.now c.args.x c.args.inner.now c.args.phase c.args.places.now).rows = c.in_ok-made.ensures.ok ∙ eq in
    rw (made, wd) (HasWidth-composition c.args.outer.now c.args.x c.args.inner.now c.args.phase c.args.places.now c.rows.ensures.widths c.requires.x)

pub returns-clause-ok : goal.returns-clause-ok
returns-clause-ok g c =
    let n : c.new_inputs-added.result ≡ (count_new c.args.places.now) = c.new_inputs-added.ensures.count in
    let wd : c.in-Some.wide ≡ (c.args.outer.now.width + (count_new c.args.places.now) - 1) = rw (c.in-Some.ensures.0, c.width.ensures, n) refl in
    let at : c.in_ok-at.at.items ≡ (targets c.args.x (count_new c.args.places.now) c.args.x c.args.places.now) = rw (c.in_ok-at.ensures, n) refl in
    let on : asks c.args.x true c.args.outer.now.rows ≡ true → map g.R.Row.literals c.in_ok-on.on.items ≡ placed_rows (c.args.outer.now.width + (count_new c.args.places.now) - 1) (targets c.args.x (count_new c.args.places.now) c.args.x c.args.places.now) (cover_for c.args.inner.now c.args.phase true) = λ t. rw (c.in_ok-on.ensures.ok t, c.as_slice.ensures.value, at, wd) refl in
    let off : asks c.args.x false c.args.outer.now.rows ≡ true → map g.R.Row.literals c.in_ok-off.off.items ≡ placed_rows (c.args.outer.now.width + (count_new c.args.places.now) - 1) (targets c.args.x (count_new c.args.places.now) c.args.x c.args.places.now) (cover_for c.args.inner.now c.args.phase false) = λ t. rw (c.in_ok-off.ensures.ok t, c.as_slice-2.ensures.value, at, wd) refl in
    let eq : composed_rows c.args.x c.new_inputs-added.result (map g.R.Row.literals c.as_slice-3.result.now) (map g.R.Row.literals c.as_slice-4.result.now) (map g.R.Row.literals c.rows.result.now) ≡ (composition c.args.outer.now c.args.x c.args.inner.now c.args.phase c.args.places.now).rows =
    rw (c.as_slice-3.ensures.value, c.as_slice-4.ensures.value, c.rows.ensures.items, n)
    (composed_asked c.args.x (count_new c.args.places.now) (map g.R.Row.literals c.in_ok-on.on.items) (map g.R.Row.literals c.in_ok-off.off.items) (placed_rows (c.args.outer.now.width + (count_new c.args.places.now) - 1) (targets c.args.x (count_new c.args.places.now) c.args.x c.args.places.now) (cover_for c.args.inner.now c.args.phase true)) (placed_rows (c.args.outer.now.width + (count_new c.args.places.now) - 1) (targets c.args.x (count_new c.args.places.now) c.args.x c.args.places.now) (cover_for c.args.inner.now c.args.phase false)) c.args.outer.now.rows on off) in
    let made : map g.R.Row.literals c.in_ok-made.made.items ≡ (composition c.args.outer.now c.args.x c.args.inner.now c.args.phase c.args.places.now).rows = c.in_ok-made.ensures.ok ∙ eq in
    let is : c.of.result ≡ (composition c.args.outer.now c.args.x c.args.inner.now c.args.phase c.args.places.now) = rw (c.of.ensures, made, wd) refl in
    is

pub returns-clause-value : goal.returns-clause-value
returns-clause-value g c = λ point d.
    let n : c.new_inputs-added.result ≡ (count_new c.args.places.now) = c.new_inputs-added.ensures.count in
    let wd : c.in-Some.wide ≡ (c.args.outer.now.width + (count_new c.args.places.now) - 1) = rw (c.in-Some.ensures.0, c.width.ensures, n) refl in
    let at : c.in_ok-at.at.items ≡ (targets c.args.x (count_new c.args.places.now) c.args.x c.args.places.now) = rw (c.in_ok-at.ensures, n) refl in
    let on : asks c.args.x true c.args.outer.now.rows ≡ true → map g.R.Row.literals c.in_ok-on.on.items ≡ placed_rows (c.args.outer.now.width + (count_new c.args.places.now) - 1) (targets c.args.x (count_new c.args.places.now) c.args.x c.args.places.now) (cover_for c.args.inner.now c.args.phase true) = λ t. rw (c.in_ok-on.ensures.ok t, c.as_slice.ensures.value, at, wd) refl in
    let off : asks c.args.x false c.args.outer.now.rows ≡ true → map g.R.Row.literals c.in_ok-off.off.items ≡ placed_rows (c.args.outer.now.width + (count_new c.args.places.now) - 1) (targets c.args.x (count_new c.args.places.now) c.args.x c.args.places.now) (cover_for c.args.inner.now c.args.phase false) = λ t. rw (c.in_ok-off.ensures.ok t, c.as_slice-2.ensures.value, at, wd) refl in
    let eq : composed_rows c.args.x c.new_inputs-added.result (map g.R.Row.literals c.as_slice-3.result.now) (map g.R.Row.literals c.as_slice-4.result.now) (map g.R.Row.literals c.rows.result.now) ≡ (composition c.args.outer.now c.args.x c.args.inner.now c.args.phase c.args.places.now).rows =
    rw (c.as_slice-3.ensures.value, c.as_slice-4.ensures.value, c.rows.ensures.items, n)
    (composed_asked c.args.x (count_new c.args.places.now) (map g.R.Row.literals c.in_ok-on.on.items) (map g.R.Row.literals c.in_ok-off.off.items) (placed_rows (c.args.outer.now.width + (count_new c.args.places.now) - 1) (targets c.args.x (count_new c.args.places.now) c.args.x c.args.places.now) (cover_for c.args.inner.now c.args.phase true)) (placed_rows (c.args.outer.now.width + (count_new c.args.places.now) - 1) (targets c.args.x (count_new c.args.places.now) c.args.x c.args.places.now) (cover_for c.args.inner.now c.args.phase false)) c.args.outer.now.rows on off) in
    let made : map g.R.Row.literals c.in_ok-made.made.items ≡ (composition c.args.outer.now c.args.x c.args.inner.now c.args.phase c.args.places.now).rows = c.in_ok-made.ensures.ok ∙ eq in
    let is : c.of.result ≡ (composition c.args.outer.now c.args.x c.args.inner.now c.args.phase c.args.places.now) = rw (c.of.ensures, made, wd) refl in
    rw is (value-composition c.args.outer.now c.args.x c.args.inner.now c.args.phase c.args.places.now point c.rows.ensures.widths c.inner_rows.ensures.inner c.requires.x c.requires.many c.requires.entries (rw is at d))

pub returns-clause-within : goal.returns-clause-within
returns-clause-within g c = λ t.
    let n : c.new_inputs-added.result ≡ (count_new c.args.places.now) = c.new_inputs-added.ensures.count in
    let wd : c.in-Some.wide ≡ (c.args.outer.now.width + (count_new c.args.places.now) - 1) = rw (c.in-Some.ensures.0, c.width.ensures, n) refl in
    let at : c.in_ok-at.at.items ≡ (targets c.args.x (count_new c.args.places.now) c.args.x c.args.places.now) = rw (c.in_ok-at.ensures, n) refl in
    let on : asks c.args.x true c.args.outer.now.rows ≡ true → map g.R.Row.literals c.in_ok-on.on.items ≡ placed_rows (c.args.outer.now.width + (count_new c.args.places.now) - 1) (targets c.args.x (count_new c.args.places.now) c.args.x c.args.places.now) (cover_for c.args.inner.now c.args.phase true) = λ t. rw (c.in_ok-on.ensures.ok t, c.as_slice.ensures.value, at, wd) refl in
    let off : asks c.args.x false c.args.outer.now.rows ≡ true → map g.R.Row.literals c.in_ok-off.off.items ≡ placed_rows (c.args.outer.now.width + (count_new c.args.places.now) - 1) (targets c.args.x (count_new c.args.places.now) c.args.x c.args.places.now) (cover_for c.args.inner.now c.args.phase false) = λ t. rw (c.in_ok-off.ensures.ok t, c.as_slice-2.ensures.value, at, wd) refl in
    let eq : composed_rows c.args.x c.new_inputs-added.result (map g.R.Row.literals c.as_slice-3.result.now) (map g.R.Row.literals c.as_slice-4.result.now) (map g.R.Row.literals c.rows.result.now) ≡ (composition c.args.outer.now c.args.x c.args.inner.now c.args.phase c.args.places.now).rows =
    rw (c.as_slice-3.ensures.value, c.as_slice-4.ensures.value, c.rows.ensures.items, n)
    (composed_asked c.args.x (count_new c.args.places.now) (map g.R.Row.literals c.in_ok-on.on.items) (map g.R.Row.literals c.in_ok-off.off.items) (placed_rows (c.args.outer.now.width + (count_new c.args.places.now) - 1) (targets c.args.x (count_new c.args.places.now) c.args.x c.args.places.now) (cover_for c.args.inner.now c.args.phase true)) (placed_rows (c.args.outer.now.width + (count_new c.args.places.now) - 1) (targets c.args.x (count_new c.args.places.now) c.args.x c.args.places.now) (cover_for c.args.inner.now c.args.phase false)) c.args.outer.now.rows on off) in
    elim t [
      | inl a ↦ list_within c.args.x c.args.outer.now.rows c.args.phase (length (list_rows c.args.inner.now.width false c.args.inner.now.rows)) c.args.list_limit c.in_ok-on.ensures.within c.in_ok-off.ensures.within a.0 a.1
      | inr b ↦ (let e : length (composed_rows c.args.x c.new_inputs-added.result (map g.R.Row.literals c.as_slice-3.result.now) (map g.R.Row.literals c.as_slice-4.result.now) (map g.R.Row.literals c.rows.result.now)) ≡ length (composition c.args.outer.now c.args.x c.args.inner.now c.args.phase c.args.places.now).rows = ap length eq in
          omega (arith, e, b, c.in_ok-made.ensures.within))
    ]

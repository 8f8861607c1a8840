use Rattle.std.proofs.Common.{◌≡◌, ℕ, true, false, Some, List, set, map, ap, subst, arith, IsTrue, ◌↔◌}
use Rattle.std.proofs.lemmas.List.{length-set, nil_from_length}
use Rattle.cube_cover.specs.Covers.{picked_rows, IsCovered}
use Rattle.cube_cover.proofs.Splits.{fewer_dashes, empty_answer, contained_answer, full_answer, low_answer, both_answer}
use Rattle.cube_cover.proofs.Dashed.{reduction_answer}
use Rattle.cube_cover.proofs.tautology.+is_covered.Goals as goal

pub returns-then-len-eq0 : goal.returns-then-len-eq0
returns-then-len-eq0 g t c =
    reduction_answer _ _ _ false c.in_ok-kept.ensures
    (empty_answer (g.R.Row.literals c.args.given.now) (picked_rows (map g.R.Row.literals c.args.rows.now) c.in_ok-kept.kept.items) (ap (picked_rows (map g.R.Row.literals c.args.rows.now)) (nil_from_length c.in_ok-kept.kept.items (omega (arith, c.if-len-eq0.true, c.len.ensures)))))

pub returns-then-choice_has_points : goal.returns-then-choice_has_points
returns-then-choice_has_points g t c = contained_answer _ _ c.requires (c.choice_has_points.ensures c.if-choice_has_points.true)

pub returns-then-choice_has_points-2 : goal.returns-then-choice_has_points-2
returns-then-choice_has_points-2 g t c =
    reduction_answer _ _ _ true c.in_ok-kept.ensures
    (contained_answer _ _ c.in_ok-kept.ensures.widths (rw (← c.as_slice-2.ensures.value) (c.choice_has_points-2.ensures c.if-choice_has_points-2.true)))

pub returns-in-None : goal.returns-in-None
returns-in-None g t c =
    reduction_answer _ _ _ c.some_has_points.result c.in_ok-kept.ensures
    (full_answer _ _ c.some_has_points.result c.in_ok-kept.ensures.widths c.in-None.ensures (rw (← c.as_slice-in-None.ensures.value) c.some_has_points.ensures))

pub is_covered-requires : goal.is_covered-requires
is_covered-requires g t c κs within =
    let low : g.R.Row.literals c.in_ok-low-in-Some.low ≡ set (g.R.Row.literals c.args.given.now) c.in-Some.place (Some false) = c.in_ok-low-in-Some.ensures in (
      rw low (omega (arith, fewer_dashes (g.R.Row.literals c.args.given.now) c.in-Some.place false c.in-Some.ensures.0 c.in-Some.ensures.1, c.decreases)),
      (within, rw (low, length-set (g.R.Row.literals c.args.given.now) c.in-Some.place (Some false), c.as_slice-in-Some.ensures.value) c.in_ok-kept.ensures.widths),
    )

pub returns-then-not-low_answer : goal.returns-then-not-low_answer
returns-then-not-low_answer g t c =
    let low : IsTrue c.in_ok-low_answer-in-Some.low_answer ↔ IsCovered (g.R.Row.literals c.in_ok-low-in-Some.low) (picked_rows (map g.R.Row.literals c.args.rows.now) c.in_ok-kept.kept.items) =
    subst (λ (n : List ℕ). IsTrue c.in_ok-low_answer-in-Some.low_answer ↔ IsCovered (g.R.Row.literals c.in_ok-low-in-Some.low) (picked_rows (map g.R.Row.literals c.args.rows.now) n)) c.as_slice-in-Some.ensures.value c.in_ok-low_answer-in-Some.ensures in
    reduction_answer _ _ _ c.in_ok-low_answer-in-Some.low_answer c.in_ok-kept.ensures
    (low_answer (g.R.Row.literals c.args.given.now) (g.R.Row.literals c.in_ok-low-in-Some.low) (picked_rows (map g.R.Row.literals c.args.rows.now) c.in_ok-kept.kept.items) c.in-Some.place c.in_ok-low_answer-in-Some.low_answer c.in-Some.ensures.1 c.in_ok-low-in-Some.ensures low c.if-not-low_answer.true)

pub is_covered-requires-in-Some : goal.is_covered-requires-in-Some
is_covered-requires-in-Some g t c κs within =
    let high : g.R.Row.literals c.in_ok-high-in-Some.high ≡ set (g.R.Row.literals c.args.given.now) c.in-Some.place (Some true) = c.in_ok-high-in-Some.ensures in (
      rw high (omega (arith, fewer_dashes (g.R.Row.literals c.args.given.now) c.in-Some.place true c.in-Some.ensures.0 c.in-Some.ensures.1, c.decreases)),
      (within, rw (high, length-set (g.R.Row.literals c.args.given.now) c.in-Some.place (Some true), c.as_slice-in-Some-2.ensures.value) c.in_ok-kept.ensures.widths),
    )

pub returns : goal.returns
returns g t c =
    let low : IsTrue c.in_ok-low_answer-in-Some.low_answer ↔ IsCovered (g.R.Row.literals c.in_ok-low-in-Some.low) (picked_rows (map g.R.Row.literals c.args.rows.now) c.in_ok-kept.kept.items) =
    subst (λ (n : List ℕ). IsTrue c.in_ok-low_answer-in-Some.low_answer ↔ IsCovered (g.R.Row.literals c.in_ok-low-in-Some.low) (picked_rows (map g.R.Row.literals c.args.rows.now) n)) c.as_slice-in-Some.ensures.value c.in_ok-low_answer-in-Some.ensures in
    let high : IsTrue c.in_ok-high_answer-in-Some.high_answer ↔ IsCovered (g.R.Row.literals c.in_ok-high-in-Some.high) (picked_rows (map g.R.Row.literals c.args.rows.now) c.in_ok-kept.kept.items) =
    subst (λ (n : List ℕ). IsTrue c.in_ok-high_answer-in-Some.high_answer ↔ IsCovered (g.R.Row.literals c.in_ok-high-in-Some.high) (picked_rows (map g.R.Row.literals c.args.rows.now) n)) c.as_slice-in-Some-2.ensures.value c.in_ok-high_answer-in-Some.ensures in
    reduction_answer _ _ _ c.in_ok-high_answer-in-Some.high_answer c.in_ok-kept.ensures
    (both_answer (g.R.Row.literals c.args.given.now) (g.R.Row.literals c.in_ok-low-in-Some.low) (g.R.Row.literals c.in_ok-high-in-Some.high) (picked_rows (map g.R.Row.literals c.args.rows.now) c.in_ok-kept.kept.items) c.in-Some.place
    c.in_ok-low_answer-in-Some.low_answer c.in_ok-high_answer-in-Some.high_answer c.in-Some.ensures.1 c.in_ok-low-in-Some.ensures c.in_ok-high-in-Some.ensures low c.if-not-low_answer.false high)

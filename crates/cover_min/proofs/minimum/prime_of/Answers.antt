use Rattle.std.proofs.Common.{rules, ◌≡◌, ◌∙◌, sym, ap, refl, Err, arith}
use Rattle.cover_min.specs.Minimum.{Meaning, widened_to}
use Rattle.cover_min.specs.declared.oracle.OracleFault.TheVariants.{Refused}
use Rattle.cover_min.proofs.Refusals.{not_before_first, widening_more, widening_passed}
use Rattle.cover_min.proofs.Refusals.{widening_refused, widening_length}
use Rattle.cover_min.proofs.minimum.prime_of.Goals as goal

pub loop-place-init : goal.loop-place-init
unfolding widened_to
loop-place-init g c = record {
  stays = g.met.O.Oracle.reflexive c.args.oracle.now;
  widened = refl;
  passed = not_before_first (g.O.Oracle.meaning c.args.oracle.now)
      (g.O.Oracle.refusals c.args.oracle.now) (g.R.Row.literals c.args.row);
}

pub widen_at-requires-clause-width : goal.widen_at-requires-clause-width
widen_at-requires-clause-width g c =
    let same = g.met.O.Oracle.meaning_stays c.args.oracle.now c.loop-place.oracle
    c.loop-place.invariant.stays in
    widening_length (g.O.Oracle.meaning c.args.oracle.now) (g.R.Row.literals c.args.row) (g.R.Row.literals c.loop-place.row) c.loop-place.place c.loop-place.invariant.widened
    ∙ c.requires.width ∙ ap (λ (m : Meaning). m.width) (sym same)

pub widen_at-requires-clause-place : goal.widen_at-requires-clause-place
widen_at-requires-clause-place g c =
    omega (
      arith,
      c.loop-place-test.true,
      c.width-place-end.ensures,
      widening_length (g.O.Oracle.meaning c.args.oracle.now) (g.R.Row.literals c.args.row) (g.R.Row.literals c.loop-place.row) c.loop-place.place c.loop-place.invariant.widened,
    )

pub returns-in_err-widen_at-clause-refused : goal.returns-in_err-widen_at-clause-refused
returns-in_err-widen_at-clause-refused g c = λ h.
    let same : c.from_residual.result ≡ Err c.in_err-widen_at.field-0.0 = search rules in
    let gone : c.in_err-widen_at.field-0.0 ≡ Refused = cc in
    widening_refused (g.O.Oracle.meaning c.args.oracle.now) (g.O.Oracle.refusals c.args.oracle.now)
    (g.O.Oracle.refusals c.loop-place.oracle) (g.R.Row.literals c.args.row)
    (g.R.Row.literals c.loop-place.row) c.loop-place.place
    (g.met.O.Oracle.refusals_stay c.args.oracle.now c.loop-place.oracle
    c.loop-place.invariant.stays)
    c.loop-place.invariant.widened
    (omega (arith, c.loop-place-test.true, c.width-place-end.ensures))
    (c.in_err-widen_at.ensures.refused (ap Err gone))

pub loop-place-preserved : goal.loop-place-preserved
loop-place-preserved g c = record {
  stays = g.met.O.Oracle.transitive c.args.oracle.now c.loop-place.oracle c.widen_at.new.oracle
      c.loop-place.invariant.stays c.in_ok-widen_at.ensures.stays;
  widened =
      widening_more (g.O.Oracle.meaning c.args.oracle.now) (g.O.Oracle.meaning c.loop-place.oracle)
      (g.R.Row.literals c.args.row) (g.R.Row.literals c.loop-place.row)
      (g.R.Row.literals c.widen_at.new.row) c.loop-place.place
      (g.met.O.Oracle.meaning_stays c.args.oracle.now c.loop-place.oracle
      c.loop-place.invariant.stays) c.loop-place.invariant.widened
      c.in_ok-widen_at.ensures.widened;
  passed =
      widening_passed (g.O.Oracle.meaning c.args.oracle.now) (g.O.Oracle.refusals c.args.oracle.now)
      (g.O.Oracle.refusals c.loop-place.oracle) (g.R.Row.literals c.args.row)
      (g.R.Row.literals c.loop-place.row)
      c.loop-place.place
      (g.met.O.Oracle.refusals_stay c.args.oracle.now c.loop-place.oracle
      c.loop-place.invariant.stays) c.loop-place.invariant.widened c.loop-place.invariant.passed
      c.in_ok-widen_at.ensures.passed;
}

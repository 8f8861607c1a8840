use Rattle.std.proofs.Common.{rules, ◌≡◌, ◌∙◌, sym, ap, Err, option_map}
use Rattle.cover_min.specs.Minimum.{Meaning}
use Rattle.cover_min.specs.declared.oracle.OracleFault.TheVariants.{Refused}
use Rattle.cover_min.proofs.Trimming.{in_hand_is, width_in_hand, trimming_more, trimming_refused}
use Rattle.cover_min.proofs.Trimming.{trimming_ends, trimming_passed}
use Rattle.cover_min.proofs.minimum.needed_of.Goals as goal

pub judged-requires-clause-row : goal.judged-requires-clause-row
judged-requires-clause-row g c =
    width_in_hand (g.O.Oracle.meaning c.args.oracle.now) (g.O.Oracle.refusals c.args.oracle.now)
    c.args.cover.rows c.loop-row.held.others c.loop-row.held.place
    (g.R.Row.literals c.in-Some.row)
    (in_hand_is g.R.Row.literals (g.O.Oracle.meaning c.args.oracle.now)
    (g.O.Oracle.refusals c.args.oracle.now) c.args.cover.rows c.loop-row.held.others
    c.loop-row.held.place c.loop-row.held.hand c.in-Some.row c.in-Some.is
    c.loop-row.invariant.trimming)
    ∙ ap (λ (m : Meaning). m.width)
    (sym (g.met.O.Oracle.meaning_stays c.args.oracle.now c.loop-row.oracle
    c.loop-row.invariant.stays))

pub returns-in_default-clause-needed : goal.returns-in_default-clause-needed
returns-in_default-clause-needed g c =
    trimming_ends (g.O.Oracle.meaning c.args.oracle.now) (g.O.Oracle.refusals c.args.oracle.now)
    c.args.cover.rows c.loop-row.held.others c.loop-row.held.place c.args.cover.width
    (option_map g.R.Row.literals c.loop-row.held.hand)
    c.requires.width c.loop-row.invariant.trimming
    (ap (option_map g.R.Row.literals) c.in_default.is)

pub returns-in_default-clause-passed : goal.returns-in_default-clause-passed
returns-in_default-clause-passed g c =
    trimming_passed (g.O.Oracle.meaning c.args.oracle.now) (g.O.Oracle.refusals c.args.oracle.now)
    c.args.cover.rows c.loop-row.held.others c.loop-row.held.place
    (option_map g.R.Row.literals c.loop-row.held.hand)
    c.loop-row.invariant.trimming (ap (option_map g.R.Row.literals) c.in_default.is)

pub returns-in_err-held-clause-refused : goal.returns-in_err-held-clause-refused
returns-in_err-held-clause-refused g c = λ h.
    let same : c.from_residual.result ≡ Err c.in_err-held.field-0.0 = search rules in
    let gone : c.in_err-held.field-0.0 ≡ Refused = cc in
    trimming_refused (g.O.Oracle.meaning c.args.oracle.now) (g.O.Oracle.refusals c.args.oracle.now)
    (g.O.Oracle.refusals c.loop-row.oracle) c.args.cover.rows c.loop-row.held.others
    c.loop-row.held.place (g.R.Row.literals c.in-Some.row)
    (g.met.O.Oracle.refusals_stay c.args.oracle.now c.loop-row.oracle c.loop-row.invariant.stays)
    (in_hand_is g.R.Row.literals (g.O.Oracle.meaning c.args.oracle.now)
    (g.O.Oracle.refusals c.args.oracle.now) c.args.cover.rows c.loop-row.held.others
    c.loop-row.held.place c.loop-row.held.hand c.in-Some.row c.in-Some.is
    c.loop-row.invariant.trimming)
    (c.in_err-held.ensures.refused (ap Err gone))

pub loop-row-preserved : goal.loop-row-preserved
loop-row-preserved g c = record {
  stays = g.met.O.Oracle.transitive c.args.oracle.now c.loop-row.oracle c.judged.new.oracle
      c.loop-row.invariant.stays c.in_ok-held.ensures.stays;
  trimming =
      trimming_more (g.O.Oracle.meaning c.args.oracle.now) (g.O.Oracle.meaning c.loop-row.oracle)
      (g.O.Oracle.refusals c.args.oracle.now) (g.O.Oracle.refusals c.loop-row.oracle)
      c.args.cover.rows c.loop-row.held.others c.in_ok-held.held.others c.loop-row.held.place
      c.in_ok-held.held.place
      (g.R.Row.literals c.in-Some.row) (option_map g.R.Row.literals c.in_ok-held.held.hand)
      (g.met.O.Oracle.meaning_stays c.args.oracle.now c.loop-row.oracle c.loop-row.invariant.stays)
      (g.met.O.Oracle.refusals_stay c.args.oracle.now c.loop-row.oracle
      c.loop-row.invariant.stays)
      (in_hand_is g.R.Row.literals (g.O.Oracle.meaning c.args.oracle.now)
      (g.O.Oracle.refusals c.args.oracle.now) c.args.cover.rows c.loop-row.held.others
      c.loop-row.held.place c.loop-row.held.hand c.in-Some.row c.in-Some.is
      c.loop-row.invariant.trimming)
      c.in_ok-held.ensures.passed c.in_ok-held.ensures.width c.in_ok-held.ensures.held;
}

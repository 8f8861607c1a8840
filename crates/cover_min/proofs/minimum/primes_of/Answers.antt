use Rattle.std.proofs.Common.{rules, ◌≡◌, ◌∙◌, sym, ap, map, length, Err, arith}
use Rattle.std.specs.Vec.Iter.{into_iter_items}
use Rattle.cover_min.specs.Minimum.{Meaning}
use Rattle.cover_min.specs.declared.oracle.OracleFault.TheVariants.{Refused}
use Rattle.cover_min.proofs.Refusals.{spreading_width, spreading_fits, spreading_more}
use Rattle.cover_min.proofs.Refusals.{spreading_refused}
use Rattle.cover_min.proofs.minimum.primes_of.Goals as goal

pub prime_of-requires-clause-width : goal.prime_of-requires-clause-width
prime_of-requires-clause-width g c =
    let same = g.met.O.Oracle.meaning_stays c.args.oracle.now c.loop-row.oracle
    c.loop-row.invariant.stays in
    spreading_width (g.O.Oracle.meaning c.args.oracle.now) (g.O.Oracle.refusals c.args.oracle.now)
    c.args.cover.rows (map g.R.Row.literals (into_iter_items c.loop-row.row-iterator))
    (map g.R.Row.literals (into_iter_items c.next.new.self)) c.loop-row.primes
    (g.R.Row.literals c.in-Some.row) c.loop-row.invariant.spreading
    (ap (map g.R.Row.literals) c.in-Some.ensures.steps.0)
    ∙ ap (λ (m : Meaning). m.width) (sym same)

pub push-requires : goal.push-requires
push-requires g c =
    spreading_fits (g.O.Oracle.meaning c.args.oracle.now) (g.O.Oracle.meaning c.loop-row.oracle)
    (g.O.Oracle.refusals c.args.oracle.now) c.args.cover.rows
    (map g.R.Row.literals (into_iter_items c.loop-row.row-iterator))
    (map g.R.Row.literals (into_iter_items c.next.new.self)) c.loop-row.primes
    (g.R.Row.literals c.in-Some.row) (g.R.Row.literals c.in_ok-prime_of.field-0)
    c.loop-row.invariant.spreading
    (ap (map g.R.Row.literals) c.in-Some.ensures.steps.0) c.in_ok-prime_of.ensures.widened

pub returns-in_err-prime_of-clause-refused : goal.returns-in_err-prime_of-clause-refused
returns-in_err-prime_of-clause-refused g c = λ h.
    let same : c.from_residual.result ≡ Err c.in_err-prime_of.field-0.0 = search rules in
    let gone : c.in_err-prime_of.field-0.0 ≡ Refused = cc in
    spreading_refused (g.O.Oracle.meaning c.args.oracle.now) (g.O.Oracle.meaning c.loop-row.oracle)
    (g.O.Oracle.refusals c.args.oracle.now) (g.O.Oracle.refusals c.loop-row.oracle)
    c.args.cover.rows
    (map g.R.Row.literals (into_iter_items c.loop-row.row-iterator))
    (map g.R.Row.literals (into_iter_items c.next.new.self)) c.loop-row.primes
    (g.R.Row.literals c.in-Some.row)
    (g.met.O.Oracle.meaning_stays c.args.oracle.now c.loop-row.oracle c.loop-row.invariant.stays)
    (g.met.O.Oracle.refusals_stay c.args.oracle.now c.loop-row.oracle
    c.loop-row.invariant.stays)
    c.loop-row.invariant.spreading (ap (map g.R.Row.literals) c.in-Some.ensures.steps.0)
    (c.in_err-prime_of.ensures.refused (ap Err gone))

pub loop-row-preserved : goal.loop-row-preserved
loop-row-preserved g c = record {
  stays = g.met.O.Oracle.transitive c.args.oracle.now c.loop-row.oracle c.prime_of.new.oracle
      c.loop-row.invariant.stays c.in_ok-prime_of.ensures.stays;
  spreading =
      spreading_more (g.O.Oracle.meaning c.args.oracle.now) (g.O.Oracle.meaning c.loop-row.oracle)
      (g.O.Oracle.refusals c.args.oracle.now) (g.O.Oracle.refusals c.loop-row.oracle)
      c.args.cover.rows
      (map g.R.Row.literals (into_iter_items c.loop-row.row-iterator))
      (map g.R.Row.literals (into_iter_items c.next.new.self)) c.loop-row.primes c.push.new.self
      (g.R.Row.literals c.in-Some.row)
      (g.R.Row.literals c.in_ok-prime_of.field-0)
      (g.met.O.Oracle.meaning_stays c.args.oracle.now c.loop-row.oracle
      c.loop-row.invariant.stays)
      (g.met.O.Oracle.refusals_stay c.args.oracle.now c.loop-row.oracle c.loop-row.invariant.stays)
      c.loop-row.invariant.spreading (ap (map g.R.Row.literals) c.in-Some.ensures.steps.0)
      c.in_ok-prime_of.ensures.passed c.in_ok-prime_of.ensures.widened c.in_ok-push.ensures.ok;
  long = omega (arith, c.in-Some.ensures.steps.1, c.loop-row.invariant.long, ap length c.in-Some.ensures.steps.0);
}

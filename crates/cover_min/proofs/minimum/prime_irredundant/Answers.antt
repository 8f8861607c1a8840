use Rattle.std.proofs.Common.{rules, ◌≡◌, ap, subst, Result, Ok, Err, IfOk, OnOk, inl}
use Rattle.cube_cover.specs.Covers.{Shape}
use Rattle.cover_min.specs.declared.oracle.OracleFault.TheVariants.{Refused}
use Rattle.cover_min.proofs.Refusals.{minimum_is, refused_behind, passed_behind}
use Rattle.cover_min.proofs.minimum.prime_irredundant.Goals as goal

pub returns-in_err-primes-clause-refused : goal.returns-in_err-primes-clause-refused
returns-in_err-primes-clause-refused g c = λ h.
    let same : c.from_residual.result ≡ Err c.in_err-primes.field-0.0 = search rules in
    let gone : c.in_err-primes.field-0.0 ≡ Refused = cc in
    inl (c.in_err-primes.ensures.refused (ap Err gone))

pub returns-clause-minimum : goal.returns-clause-minimum
returns-clause-minimum g c =
    subst (λ (s : Shape). IfOk c.needed_of.result (λ least. least ≡ s))
    (minimum_is (g.O.Oracle.meaning c.args.oracle.now) (g.O.Oracle.meaning c.primes_of.new.oracle)
    c.args.cover.rows c.in_ok-primes.primes c.args.cover.width
    (g.met.O.Oracle.meaning_stays c.args.oracle.now c.primes_of.new.oracle
    c.in_ok-primes.ensures.stays) c.in_ok-primes.ensures.widened)
    c.needed_of.ensures.needed

on_ok : {T E : Type 0} (P Q : Type 0) (result : Result T E) → (P → Q) → OnOk result P
    → OnOk result Q
on_ok P Q (Ok value) more h = more h
on_ok P Q (Err fault) more h = tt

pub returns-clause-passed : goal.returns-clause-passed
returns-clause-passed g c =
    on_ok _ _ c.needed_of.result
    (λ passed.
    passed_behind (g.O.Oracle.meaning c.args.oracle.now) (g.O.Oracle.meaning c.primes_of.new.oracle)
    (g.O.Oracle.refusals c.args.oracle.now) (g.O.Oracle.refusals c.primes_of.new.oracle)
    c.args.cover.rows c.in_ok-primes.primes c.args.cover.width
    (g.met.O.Oracle.meaning_stays c.args.oracle.now c.primes_of.new.oracle
    c.in_ok-primes.ensures.stays)
    (g.met.O.Oracle.refusals_stay c.args.oracle.now c.primes_of.new.oracle
    c.in_ok-primes.ensures.stays) c.in_ok-primes.ensures.widened c.in_ok-primes.ensures.passed
    passed)
    c.needed_of.ensures.passed

pub returns-clause-refused : goal.returns-clause-refused
returns-clause-refused g c = λ h.
    refused_behind (g.O.Oracle.meaning c.args.oracle.now)
    (g.O.Oracle.meaning c.primes_of.new.oracle) (g.O.Oracle.refusals c.args.oracle.now)
    (g.O.Oracle.refusals c.primes_of.new.oracle)
    c.args.cover.rows c.in_ok-primes.primes c.args.cover.width
    (g.met.O.Oracle.meaning_stays c.args.oracle.now c.primes_of.new.oracle
    c.in_ok-primes.ensures.stays)
    (g.met.O.Oracle.refusals_stay c.args.oracle.now c.primes_of.new.oracle
    c.in_ok-primes.ensures.stays) c.in_ok-primes.ensures.widened (c.needed_of.ensures.refused h)

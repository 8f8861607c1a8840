use Rattle.std.proofs.Common.{length, ap, rules, arith}
use Rattle.std.proofs.lemmas.Fn.{always_returns_same}
use Rattle.net_gains.specs.Codes.{name_cmp}
use Rattle.net_gains.proofs.Looked.{found_at, missing_at}
use Rattle.net_gains.proofs.codes.Codes.place.Goals as goal

pub returns-in-Ok : goal.returns-in-Ok
returns-in-Ok c =
    let both =
    found_at c.deref.result.now c.args.name.now c.in-Ok.place (rw c.deref.ensures.value c.self.invariant.0) c.in-Ok.ensures.bound
    (c.in-Ok.ensures.position (λ known. name_cmp known c.args.name.now) (always_returns_same _ _ _ (λ a r f called. search rules)))
    in rw (← c.self.view_is, ← c.deref.ensures.value) (both.0, both.1, omega (arith, c.in-Ok.ensures.bound, ap length c.deref.ensures.value, c.self.invariant.1))

pub returns-in-Err : goal.returns-in-Err
returns-in-Err c =
    rw (← c.self.view_is, ← c.deref.ensures.value)
    (missing_at c.deref.result.now c.args.name.now c.in-Err.field-0 (rw c.deref.ensures.value c.self.invariant.0)
    (c.in-Err.ensures.position (λ known. name_cmp known c.args.name.now) (always_returns_same _ _ _ (λ a r f called. search rules))))

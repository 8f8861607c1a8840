use Rattle.std.proofs.Common.{◌≡◌, ℕ, true, false, bytes_eq, inl, inr, ◌∙◌, subst}
use Rattle.std.proofs.lemmas.Result.{err_from_is_err_and, IfErr-weaker}
use Rattle.net_func.specs.Numbering.{number_in}
use Rattle.net_func.specs.Signals.{own_function, free_function, forced_function, IsBigAt, IsBigSeen}
use Rattle.net_func.specs.Kept.{is_signal, is_free_signal}
use Rattle.net_func.proofs.Keeping.{all_some, some_later}
use Rattle.func_core.proofs.Meanings.{Stays-chain}
use Rattle.net_func.proofs.Adding.{blames_weaker}
use Rattle.net_func.proofs.Turning.{all_later}
use Rattle.net_func.proofs.seen.seen_beside.Goals as goal

pub seen_by-requires-clause-low : goal.seen_by-requires-clause-low
seen_by-requires-clause-low g c =
    all_later g.F.Functions.holds g.F.Functions.tree g.F.Functions.limit
    c.forced_beside.new.functions c.forced_beside-2.new.functions _
    (forced_function c.args.ordered.now.circuit c.args.name.now false) (number_in c.in_ok-low.low)
    c.in_ok-high.ensures.stays c.in_ok-low.ensures.ok

pub returns-in_err-low-clause-big : goal.returns-in_err-low-clause-big
returns-in_err-low-clause-big g c =
    let p = err_from_is_err_and c.from_residual.result c.from_residual.ensures.1 in
    rw (p.1, p.2)
    (blames_weaker
    (λ blamed. (bytes_eq blamed c.args.name.now ≡ false)
    × IsBigAt (g.F.Functions.limit c.args.functions.now) c.args.ordered.now.circuit.tables
    (forced_function c.args.ordered.now.circuit c.args.name.now false) blamed) _
    c.in_err-low.field-0.0
    (λ blamed cause. inr (inl (false, (blamed, cause.0, cause.1)))) c.in_err-low.ensures.big)

pub returns-in_err-high-clause-big : goal.returns-in_err-high-clause-big
returns-in_err-high-clause-big g c =
    let p = err_from_is_err_and c.from_residual-in_err-high.result
    c.from_residual-in_err-high.ensures.1 in
    rw (p.1, p.2)
    (blames_weaker
    (λ blamed. (bytes_eq blamed c.args.name.now ≡ false)
    × IsBigAt (g.F.Functions.limit c.forced_beside.new.functions) c.args.ordered.now.circuit.tables
    (forced_function c.args.ordered.now.circuit c.args.name.now true) blamed) _
    c.in_err-high.field-0.0
    (λ blamed cause.
    subst (λ (l : ℕ). IsBigSeen l c.args.ordered.now.circuit c.args.name.now)
    c.in_ok-low.ensures.stays.same
    (inr (inl (true, (blamed, cause.0, cause.1))))) c.in_err-high.ensures.big)

pub returns-clause-big : goal.returns-clause-big
returns-clause-big g c =
    IfErr-weaker c.seen_by.result _ _
    (λ fault.
    blames_weaker
    (λ blamed. IsBigSeen (g.F.Functions.limit c.forced_beside-2.new.functions)
    c.args.ordered.now.circuit
    c.args.name.now) _ fault
    (λ blamed big.
    subst (λ (l : ℕ). IsBigSeen l c.args.ordered.now.circuit c.args.name.now)
    (c.in_ok-high.ensures.stays.same ∙ c.in_ok-low.ensures.stays.same) big))
    c.seen_by.ensures.big

pub forced_beside-requires-clause-own : goal.forced_beside-requires-clause-own
forced_beside-requires-clause-own g c =
    all_some g.F.Functions.holds g.F.Functions.tree g.F.Functions.limit c.args.functions.now
    (is_signal c.args.ordered.now.circuit) (own_function c.args.ordered.now.circuit)
    (number_in c.args.own.now) c.requires.own

pub forced_beside-requires-2-clause-own : goal.forced_beside-requires-2-clause-own
forced_beside-requires-2-clause-own g c =
    some_later g.F.Functions.holds g.F.Functions.tree g.F.Functions.limit c.args.functions.now
    c.forced_beside.new.functions
    (is_signal c.args.ordered.now.circuit) (own_function c.args.ordered.now.circuit)
    (number_in c.args.own.now) c.in_ok-low.ensures.stays
    (all_some g.F.Functions.holds g.F.Functions.tree g.F.Functions.limit c.args.functions.now
    (is_signal c.args.ordered.now.circuit) (own_function c.args.ordered.now.circuit)
    (number_in c.args.own.now) c.requires.own)

pub seen_by-requires-clause-free : goal.seen_by-requires-clause-free
seen_by-requires-clause-free g c =
    all_later g.F.Functions.holds g.F.Functions.tree g.F.Functions.limit c.args.functions.now
    c.forced_beside-2.new.functions
    (is_free_signal c.args.ordered.now.circuit) (free_function c.args.ordered.now.circuit)
    (number_in c.args.free.now)
    (Stays-chain g.F.Functions.holds g.F.Functions.tree g.F.Functions.limit c.args.functions.now
    c.forced_beside.new.functions c.forced_beside-2.new.functions c.in_ok-low.ensures.stays
    c.in_ok-high.ensures.stays) c.requires.free

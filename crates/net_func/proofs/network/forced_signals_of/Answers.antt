use Rattle.std.proofs.Common.{◌≡◌, false, bytes_eq, ◌++◌, inl, inr, subst}
use Rattle.std.proofs.lemmas.Result.{err_from_is_err_and}
use Rattle.circuit_model.specs.Soundness.{leaf_names}
use Rattle.circuit_order.specs.Order.{order_of}
use Rattle.net_func.specs.Signals.{forced_function, free_function, IsBigAt}
use Rattle.net_func.proofs.Adding.{blames_weaker}
use Rattle.net_func.proofs.Listed.{numbered_later}
use Rattle.net_func.proofs.network.forced_signals_of.Goals as goal

pub returns-in_err-own-clause-big : goal.returns-in_err-own-clause-big
returns-in_err-own-clause-big g c =
    let p = err_from_is_err_and c.from_residual.result c.from_residual.ensures.1 in
    rw (p.1, p.2)
    (blames_weaker
    (λ blamed. (bytes_eq blamed c.args.name.now ≡ false)
    × IsBigAt (g.F.Functions.limit c.args.functions.now) c.args.circuit.now.tables
    (forced_function c.args.circuit.now c.args.name.now c.args.value) blamed) _
    c.in_err-own.field-0.0
    (λ blamed cause. inl (blamed, cause.0, cause.1)) c.in_err-own.ensures.big)

pub returns-in_err-free-clause-big : goal.returns-in_err-free-clause-big
returns-in_err-free-clause-big g c =
    let p = err_from_is_err_and c.from_residual-in_err-free.result
    c.from_residual-in_err-free.ensures.1 in
    rw (p.1, p.2)
    (blames_weaker
    (IsBigAt (g.F.Functions.limit c.forced_listed.new.functions) c.args.circuit.now.dont_care
    (free_function c.args.circuit.now)) _ c.in_err-free.field-0.0
    (λ blamed big.
    inr (
      blamed,
      subst (λ l. IsBigAt l c.args.circuit.now.dont_care (free_function c.args.circuit.now) blamed)
          c.in_ok-own.ensures.stays.same big,
    ))
    c.in_err-free.ensures.big)

pub returns-clause-own : goal.returns-clause-own
returns-clause-own g c =
    numbered_later g.F.Functions.holds g.F.Functions.tree g.F.Functions.limit
    c.forced_listed.new.functions c.free_listed.new.functions
    (leaf_names c.args.circuit.now ++ order_of c.args.circuit.now.tables)
    (forced_function c.args.circuit.now c.args.name.now c.args.value) c.in_ok-own.own
    c.in_ok-free.ensures.stays c.in_ok-own.ensures.ok

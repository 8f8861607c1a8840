use Rattle.std.proofs.Common.{◌++◌, ◌⊎◌, IfOk, IfErr, sym, subst}
use Rattle.circuit_model.specs.Soundness.{leaf_names, IsSound}
use Rattle.circuit_model.specs.declared.circuit.Circuit.{Circuit}
use Rattle.circuit_order.specs.Order.{order_of}
use Rattle.net_func.specs.Signals.{own_function, free_function, AreNumbered, IsBigAt, Blames}
use Rattle.net_func.proofs.network.signal_functions.Goals as goal

pub signals_of-requires : goal.signals_of-requires
signals_of-requires g c = record {
  sound = subst IsSound (sym c.in_ok-to_circuit.ensures)
      c.sound.ensures;
}

pub returns-clause-own : goal.returns-clause-own
returns-clause-own g c =
    subst (λ (circuit : Circuit). IfOk c.signals_of.result (λ signals.
    AreNumbered g.F.Functions.holds g.F.Functions.tree g.F.Functions.limit
    c.signals_of.new.functions (leaf_names circuit ++ order_of circuit.tables)
    (own_function circuit) signals.own)) c.in_ok-to_circuit.ensures c.signals_of.ensures.own

pub returns-clause-free : goal.returns-clause-free
returns-clause-free g c =
    subst (λ (circuit : Circuit). IfOk c.signals_of.result (λ signals.
    AreNumbered g.F.Functions.holds g.F.Functions.tree g.F.Functions.limit
    c.signals_of.new.functions (order_of circuit.dont_care) (free_function circuit)
    signals.free)) c.in_ok-to_circuit.ensures c.signals_of.ensures.free

pub returns-clause-big : goal.returns-clause-big
returns-clause-big g c =
    subst (λ (circuit : Circuit). IfErr c.signals_of.result (λ fault. Blames fault (λ blamed.
    IsBigAt (g.F.Functions.limit c.args.functions.now) circuit.tables (own_function circuit) blamed
    ⊎ IsBigAt (g.F.Functions.limit c.args.functions.now) circuit.dont_care (free_function circuit)
    blamed)))
    c.in_ok-to_circuit.ensures c.signals_of.ensures.big

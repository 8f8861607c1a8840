use Rattle.std.proofs.Common.{◌≡◌, ℕ, List, true, ◌++◌, ◌⊎◌, sym, subst}
use Rattle.circuit_model.specs.Names.{has}
use Rattle.circuit_model.specs.Soundness.{leaf_names, outputs_of, IsSound}
use Rattle.circuit_model.specs.declared.circuit.Circuit.{Circuit}
use Rattle.circuit_order.specs.Order.{order_of}
use Rattle.net_func.specs.declared.fault.NetFuncFault.TheVariants.{TooBig}
use Rattle.net_func.specs.Signals.{forced_function, free_function, AreNumbered, IsBigAt, IsBigForced}
use Rattle.net_func.proofs.Adding.{blames_weaker}
use Rattle.net_func.proofs.Listed.{blamed_part}
use Rattle.net_func.proofs.network.forced.Goals as goal

pub forced_signals_of-requires-clause-sound : goal.forced_signals_of-requires-clause-sound
forced_signals_of-requires-clause-sound g c = subst IsSound (sym c.in_ok-to_circuit.ensures)
    c.sound.ensures

pub forced_signals_of-requires-clause-driven : goal.forced_signals_of-requires-clause-driven
forced_signals_of-requires-clause-driven g c =
    subst (λ (circuit : Circuit). has (outputs_of circuit.tables) c.args.name.now ≡ true)
    (sym c.in_ok-to_circuit.ensures) c.requires.driven

pub returns-in-Ok-clause-own : goal.returns-in-Ok-clause-own
returns-in-Ok-clause-own g c =
    subst (λ (circuit : Circuit).
    AreNumbered g.F.Functions.holds g.F.Functions.tree g.F.Functions.limit
    c.forced_signals_of.new.functions (leaf_names circuit ++ order_of circuit.tables)
    (forced_function circuit c.args.name.now c.args.value) c.in-Ok.signals.own)
    c.in_ok-to_circuit.ensures c.in-Ok.ensures.own

pub returns-in-Ok-clause-free : goal.returns-in-Ok-clause-free
returns-in-Ok-clause-free g c =
    subst (λ (circuit : Circuit).
    AreNumbered g.F.Functions.holds g.F.Functions.tree g.F.Functions.limit
    c.forced_signals_of.new.functions (order_of circuit.dont_care) (free_function circuit)
    c.in-Ok.signals.free) c.in_ok-to_circuit.ensures c.in-Ok.ensures.free

pub returns-clause-big : goal.returns-clause-big
returns-clause-big g c =
    blames_weaker
    (λ blamed. (blamed ≡ c.args.name.now) × ((part : List ℕ) × (c.in-Err.fault ≡ TooBig part))) _
    c.renamed.result
    (λ blamed cause. (
      cause.0,
      subst (λ (circuit : Circuit).
          IsBigForced (g.F.Functions.limit c.args.functions.now) circuit c.args.name.now
          c.args.value
          ⊎ ((part : List ℕ) × IsBigAt (g.F.Functions.limit c.args.functions.now) circuit.dont_care
          (free_function circuit) part)) c.in_ok-to_circuit.ensures
          (blamed_part
          (λ blame. IsBigForced (g.F.Functions.limit c.args.functions.now)
          c.in_ok-to_circuit.field-0 c.args.name.now c.args.value
          ⊎ ((part : List ℕ) × IsBigAt (g.F.Functions.limit c.args.functions.now)
          c.in_ok-to_circuit.field-0.dont_care
          (free_function c.in_ok-to_circuit.field-0) part))
          c.in-Err.fault cause.1.0 c.in-Err.ensures.big cause.1.1),
    ))
    c.renamed.ensures

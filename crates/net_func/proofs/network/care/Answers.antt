use Rattle.std.proofs.Common.{◌≡◌, ℕ, List, true, sym, subst}
use Rattle.circuit_model.specs.Names.{has}
use Rattle.circuit_model.specs.Soundness.{outputs_of, IsSound}
use Rattle.circuit_model.specs.declared.circuit.Circuit.{Circuit}
use Rattle.func_core.specs.Numbers.{Means}
use Rattle.net_func.specs.declared.fault.NetFuncFault.TheVariants.{TooBig}
use Rattle.net_func.specs.Signals.{is_seen, IsBigSeen}
use Rattle.net_func.proofs.Adding.{blames_weaker}
use Rattle.net_func.proofs.Listed.{blamed_part}
use Rattle.net_func.proofs.network.care.Goals as goal

pub seen_function-requires-clause-sound : goal.seen_function-requires-clause-sound
seen_function-requires-clause-sound g c = subst IsSound (sym c.in_ok-to_circuit.ensures)
    c.sound.ensures

pub seen_function-requires-clause-driven : goal.seen_function-requires-clause-driven
seen_function-requires-clause-driven g c =
    subst (λ (circuit : Circuit). has (outputs_of circuit.tables) c.args.name.now ≡ true)
    (sym c.in_ok-to_circuit.ensures) c.requires.driven

pub returns-in-Ok-clause-ok : goal.returns-in-Ok-clause-ok
returns-in-Ok-clause-ok g c =
    subst (λ (circuit : Circuit). Means g.F.Functions.holds g.F.Functions.tree g.F.Functions.limit
    c.seen_function.new.functions c.in-Ok.seen.0
    (is_seen circuit c.args.name.now)) c.in_ok-to_circuit.ensures c.in-Ok.ensures.ok

pub returns-clause-big : goal.returns-clause-big
returns-clause-big g c =
    blames_weaker
    (λ blamed. (blamed ≡ c.args.name.now) × ((part : List ℕ) × (c.in-Err.fault ≡ TooBig part))) _
    c.renamed.result
    (λ blamed cause. (
      cause.0,
      subst (λ (circuit : Circuit). IsBigSeen (g.F.Functions.limit c.args.functions.now) circuit
          c.args.name.now)
          c.in_ok-to_circuit.ensures
          (blamed_part (λ part. IsBigSeen (g.F.Functions.limit c.args.functions.now)
          c.in_ok-to_circuit.field-0 c.args.name.now)
          c.in-Err.fault cause.1.0 c.in-Err.ensures.big cause.1.1),
    ))
    c.renamed.ensures

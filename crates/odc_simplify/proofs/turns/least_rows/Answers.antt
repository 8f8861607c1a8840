use Rattle.std.proofs.Common.{◌≡◌, ℕ, List, Some, IfErr, ◌⊎◌, ◌∙◌, refl, subst}
use Rattle.circuit_model.specs.Values.{driver}
use Rattle.circuit_model.specs.declared.circuit.Table.{Table}
use Rattle.circuit_model.specs.declared.circuit.Circuit.{Circuit}
use Rattle.func_core.specs.Numbers.{Means}
use Rattle.net_core.specs.Tables.{named}
use Rattle.net_func.specs.Signals.{own_function, is_seen, AreMeant, AreWithin, IsBigAt, IsBigSeen, Blames}
use Rattle.odc_simplify.specs.Turns.{IsTurnFault, turn_fault}
use Rattle.odc_simplify.proofs.Least.{always, turn_failed}
use Rattle.odc_simplify.proofs.Serving.{serves_driven, serves_later}
use Rattle.odc_simplify.proofs.turns.least_rows.Goals as goal

pub turn-requires-clause-ready : goal.turn-requires-clause-ready
turn-requires-clause-ready g c =
    (c.make_room.ensures.serves c.args.network.now c.requires.serves).ready

pub turn-requires-clause-kept : goal.turn-requires-clause-kept
turn-requires-clause-kept g c =
    (c.make_room.ensures.serves c.args.network.now c.requires.serves).right

pub turn-requires-clause-driven : goal.turn-requires-clause-driven
turn-requires-clause-driven g c =
    serves_driven g.F.Functions.holds g.F.Functions.tree g.F.Functions.limit
    c.make_room.new.functions c.args.network.now c.make_room.new.kept c.args.name.now
    (named c.args.name.now c.args.table.now)
    (c.make_room.ensures.serves c.args.network.now c.requires.serves) c.requires.driven

pub least_by-requires-clause-inputs : goal.least_by-requires-clause-inputs
unfolding named
least_by-requires-clause-inputs g c =
    subst (λ (circuit : Circuit). (table : Table) → driver circuit.tables c.args.name.now ≡ Some
    table
    → AreMeant g.F.Functions.holds g.F.Functions.tree g.F.Functions.limit c.turn.new.functions
    table.inputs (own_function circuit) c.in-Ok.turn.inputs.items)
    (c.make_room.ensures.serves c.args.network.now c.requires.serves).same
    c.in-Ok.ensures.inputs (named c.args.name.now c.args.table.now) c.requires.driven

pub least_by-requires-clause-own : goal.least_by-requires-clause-own
least_by-requires-clause-own g c =
    subst (λ (circuit : Circuit). Means g.F.Functions.holds g.F.Functions.tree g.F.Functions.limit
    c.turn.new.functions c.in-Ok.turn.own.0 (own_function circuit c.args.name.now))
    (c.make_room.ensures.serves c.args.network.now c.requires.serves).same
    c.in-Ok.ensures.own

pub least_by-requires-clause-seen : goal.least_by-requires-clause-seen
least_by-requires-clause-seen g c =
    subst (λ (circuit : Circuit). Means g.F.Functions.holds g.F.Functions.tree g.F.Functions.limit
    c.turn.new.functions c.in-Ok.turn.seen.0 (is_seen circuit c.args.name.now))
    (c.make_room.ensures.serves c.args.network.now c.requires.serves).same
    c.in-Ok.ensures.seen

pub returns-in-Ok-clause-serves : goal.returns-in-Ok-clause-serves
returns-in-Ok-clause-serves g c =
    serves_later g.F.Functions.holds g.F.Functions.tree g.F.Functions.limit
    c.turn.new.functions c.least_by.new.functions c.args.network.now c.turn.new.self
    c.least_by.ensures.stays (record {
      ready = c.in-Ok.ensures.ready;
      same = c.in-Ok.ensures.same
          ∙ (c.make_room.ensures.serves c.args.network.now c.requires.serves).same;
      right = c.in-Ok.ensures.kept;
    })

pub returns-in-Ok-clause-limit : goal.returns-in-Ok-clause-limit
returns-in-Ok-clause-limit g c =
    c.least_by.ensures.stays.same ∙ c.in-Ok.ensures.stays.same ∙ c.make_room.ensures.limit

pub returns-in-Ok-clause-within : goal.returns-in-Ok-clause-within
returns-in-Ok-clause-within g c =
    always (AreWithin (g.F.Functions.limit c.args.functions.now) c.args.network.now)
    c.least_by.result
    (subst (λ (l : ℕ). AreWithin l c.args.network.now) c.make_room.ensures.limit
    (subst (AreWithin (g.F.Functions.limit c.make_room.new.functions))
    (c.make_room.ensures.serves c.args.network.now c.requires.serves).same
    c.in-Ok.ensures.fits))

pub returns-in-Ok-clause-fault : goal.returns-in-Ok-clause-fault
returns-in-Ok-clause-fault g c =
    subst (λ (l : ℕ). IfErr c.least_by.result (λ fault.
    IsTurnFault l c.args.network.now c.args.name.now fault))
    (c.in-Ok.ensures.stays.same ∙ c.make_room.ensures.limit) c.least_by.ensures.fault

pub returns-in-Err-clause-serves : goal.returns-in-Err-clause-serves
returns-in-Err-clause-serves g c = record {
  ready = c.in-Err.ensures.ready;
  same = c.in-Err.ensures.same
      ∙ (c.make_room.ensures.serves c.args.network.now c.requires.serves).same;
  right = c.in-Err.ensures.kept;
}

pub returns-in-Err-clause-limit : goal.returns-in-Err-clause-limit
returns-in-Err-clause-limit g c =
    c.in-Err.ensures.stays.same ∙ c.make_room.ensures.limit

pub returns-in-Err-clause-fault : goal.returns-in-Err-clause-fault
unfolding named
returns-in-Err-clause-fault g c =
    rw c.fault_of_turn.ensures
    (subst (λ (l : ℕ). IsTurnFault l c.args.network.now c.args.name.now
    (turn_fault c.in-Err.fault)) c.make_room.ensures.limit
    (turn_failed (g.F.Functions.limit c.make_room.new.functions) c.args.network.now
    c.args.name.now
    (named c.args.name.now c.args.table.now) c.requires.driven c.in-Err.fault c.requires.short refl
    (subst (λ (circuit : Circuit). Blames c.in-Err.fault (λ blamed. (blamed ≡ c.args.name.now)
    × (((part : List ℕ) × IsBigAt (g.F.Functions.limit c.make_room.new.functions) circuit.tables
    (own_function circuit) part)
    ⊎ IsBigSeen (g.F.Functions.limit c.make_room.new.functions) circuit c.args.name.now)))
    (c.make_room.ensures.serves c.args.network.now c.requires.serves).same
    c.in-Err.ensures.big)))

use Rattle.std.proofs.Common.{Err, ap, ◌∙◌}
use Rattle.cube_cover.specs.Covers.{Shape}
use Rattle.net_core.specs.Tables.{named}
use Rattle.net_func.specs.Signals.{own_function}
use Rattle.odc_simplify.proofs.Least.{meant_stand, meant_long, own_looks, seen_looks, inputs_look}
use Rattle.odc_simplify.proofs.Least.{least_is, least_failed, test_failed}
use Rattle.odc_simplify.proofs.turns.least_by.Goals as goal

pub least_cover-requires-clause-width : goal.least_cover-requires-clause-width
least_cover-requires-clause-width g c =
    rw c.as_slice-inputs.ensures.value
    (ap (λ (shape : Shape). shape.width) c.requires.rows
    ∙ meant_long g.F.Functions.holds g.F.Functions.tree g.F.Functions.limit c.args.functions.now
    (own_function c.args.network.now) c.args.table.now.inputs c.args.turn.inputs.items
    c.requires.inputs)

pub least_cover-requires-clause-inputs : goal.least_cover-requires-clause-inputs
least_cover-requires-clause-inputs g c =
    rw c.as_slice-inputs.ensures.value
    (meant_stand g.F.Functions.holds g.F.Functions.tree g.F.Functions.limit c.args.functions.now
    (own_function c.args.network.now) c.args.table.now.inputs c.args.turn.inputs.items
    c.requires.inputs)

pub least_cover-requires-clause-own_looks : goal.least_cover-requires-clause-own_looks
least_cover-requires-clause-own_looks g c =
    own_looks g.F.Functions.holds g.F.Functions.tree g.F.Functions.limit c.args.functions.now
    c.args.network.now c.in-Some.leaves c.in-Some.ensures c.args.name.now c.args.turn.own
    c.requires.own

pub least_cover-requires-clause-seen_looks : goal.least_cover-requires-clause-seen_looks
least_cover-requires-clause-seen_looks g c =
    seen_looks g.F.Functions.holds g.F.Functions.tree g.F.Functions.limit c.args.functions.now
    c.args.network.now c.in-Some.leaves c.in-Some.ensures c.args.name.now c.args.turn.seen
    c.requires.seen

pub least_cover-requires-clause-inputs_look : goal.least_cover-requires-clause-inputs_look
least_cover-requires-clause-inputs_look g c =
    rw c.as_slice-inputs.ensures.value
    (inputs_look g.F.Functions.holds g.F.Functions.tree g.F.Functions.limit c.args.functions.now
    c.args.network.now c.in-Some.leaves c.in-Some.ensures c.args.table.now.inputs
    c.args.turn.inputs.items c.requires.inputs)

pub returns-in-Ok-clause-minimum : goal.returns-in-Ok-clause-minimum
unfolding named
returns-in-Ok-clause-minimum g c =
    least_is g.F.Functions.holds g.F.Functions.tree g.F.Functions.limit c.args.functions.now
    c.args.network.now c.in-Some.leaves c.in-Some.ensures
    (named c.args.name.now c.args.table.now) c.args.turn.own c.args.turn.seen
    c.args.turn.inputs.items c.requires.own c.requires.seen c.requires.inputs c.args.cover
    c.in-Ok.least c.sound.ensures c.requires.driven c.requires.rows
    (rw c.as_slice-inputs.ensures.value at c.in-Ok.ensures.minimum)

pub returns-clause-fault : goal.returns-clause-fault
unfolding named
returns-clause-fault g c =
    test_failed (g.F.Functions.limit c.args.functions.now) c.args.network.now c.args.name.now
    (named c.args.name.now c.args.table.now) c.requires.driven c.too_big.result c.requires.short
    (least_failed g.F.Functions.holds g.F.Functions.tree g.F.Functions.limit c.args.functions.now
    c.args.network.now c.in-Some.leaves c.in-Some.ensures
    (named c.args.name.now c.args.table.now) c.args.turn.own c.args.turn.seen
    c.args.turn.inputs.items c.requires.own c.requires.seen c.requires.inputs
    (g.F.Functions.limit c.args.functions.now) c.args.cover.rows
    (ap (λ (shape : Shape). shape.rows) c.requires.rows)
    (rw c.as_slice-inputs.ensures.value
    at (c.least_cover.ensures.refused
    (c.in-Err-Refused.is ∙ ap Err c.in-Err-Refused.field-0-is))))
    c.too_big.ensures

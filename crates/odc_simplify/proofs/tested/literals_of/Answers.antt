use Rattle.std.proofs.Common.{arith}
use Rattle.odc_simplify.proofs.Tests.{made_first, input_due, made_more, made_last}
use Rattle.odc_simplify.proofs.tested.literals_of.Goals as goal

pub loop-input-init : goal.loop-input-init
loop-input-init g c =
    made_first g.F.Functions.holds g.F.Functions.tree g.F.Functions.limit c.args.functions.now
    c.args.inputs.now _ c.in_ok-literals.ensures.items

pub literal_of-requires : goal.literal_of-requires
literal_of-requires g c =
    input_due g.F.Functions.holds g.F.Functions.tree g.F.Functions.limit c.args.functions.now
    c.loop-input.functions c.args.inputs.now c.loop-input.input-index _ c.loop-input.literals.items
    c.loop-input.invariant c.requires c.loop-input-test.true

pub loop-input-preserved : goal.loop-input-preserved
loop-input-preserved g c =
    made_more g.F.Functions.holds g.F.Functions.tree g.F.Functions.limit c.args.functions.now
    c.loop-input.functions c.literal_of.new.functions c.args.inputs.now c.loop-input.input-index _
    c.loop-input.literals.items c.push.new.self.items c.in_ok-literal_of.field-0
    c.loop-input.invariant c.requires c.loop-input-test.true c.in_ok-literal_of.ensures.stays
    c.in_ok-literal_of.ensures.literal c.in_ok-literal_of.ensures.positive
    c.in_ok-push.ensures.items

pub returns-clause-literals : goal.returns-clause-literals
returns-clause-literals g c = c.loop-input.invariant.stand

pub returns-clause-inputs : goal.returns-clause-inputs
returns-clause-inputs g c =
    made_last g.F.Functions.holds g.F.Functions.tree g.F.Functions.limit c.args.functions.now
    c.loop-input.functions c.args.inputs.now c.loop-input.input-index c.loop-input.literals.items
    c.loop-input.invariant (omega arith)

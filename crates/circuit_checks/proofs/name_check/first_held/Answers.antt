use Rattle.std.proofs.Common.{◌∙◌, sym}
use Rattle.circuit_checks.proofs.Naming.{again_stops, again_goes_on, again_done}
use Rattle.circuit_checks.proofs.name_check.first_held.Goals as goal

pub returns-then-not-branch : goal.returns-then-not-branch
returns-then-not-branch c =
    sym (again_stops c.loop-name.set c.args.names.now c.loop-name.name-index c.name-item.result c.in_ok-add.field-0 c.loop-name-test.true c.name-item.is
    c.in_ok-add.ensures.added c.if-not-branch.true)
    ∙ c.loop-name.invariant

pub loop-name-preserved : goal.loop-name-preserved
loop-name-preserved c =
    again_goes_on c.loop-name.set c.add.new.self c.args.names.now c.loop-name.name-index c.name-item.result c.in_ok-add.field-0 c.loop-name-test.true
    c.name-item.is c.in_ok-add.ensures.added c.if-not-branch.false c.in_ok-add.ensures.names
    ∙ c.loop-name.invariant

pub returns : goal.returns
returns c = sym (again_done c.loop-name.set c.args.names.now c.loop-name.name-index c.loop-name-test.false) ∙ c.loop-name.invariant

use Rattle.std.proofs.Common.{refl}
use Rattle.odc_simplify.proofs.Tests.{tests_made}
use Rattle.odc_simplify.proofs.tested.tests_of.Goals as goal

pub returns-clause-made : goal.returns-clause-made
returns-clause-made g c =
    tests_made g.F.Functions.holds g.F.Functions.tree g.F.Functions.limit c.args.functions.now
    c.conjoin.new.functions c.opposite.new.functions c.conjoin-2.new.functions c.args.leaves
    c.args.own c.args.seen c.args.inputs.now c.in_ok-on.on c.in_ok-below.below c.in_ok-off.off
    c.in_ok-on.ensures.stays c.in_ok-below.ensures.stays c.in_ok-off.ensures.stays
    c.requires.own c.requires.seen c.in_ok-below.ensures.made c.literals_of.new.functions
    (record { on = c.in_ok-on.on; off = c.in_ok-off.off; literals = c.in_ok-literals.literals })
    c.in_ok-literals.ensures.stays c.in_ok-on.ensures.makes.made c.in_ok-off.ensures.makes.made
    c.requires.inputs c.in_ok-literals.ensures.literals c.in_ok-literals.ensures.inputs refl refl

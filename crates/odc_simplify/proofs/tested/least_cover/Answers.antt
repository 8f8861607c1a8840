use Rattle.std.proofs.Common.{◌≡◌, ◌∙◌, Err, IfOk, ap, sym, inr}
use Rattle.cover_min.specs.Minimum.{minimum_rows}
use Rattle.cover_min.specs.Refusals.{RefusesMinimum}
use Rattle.cover_min.specs.declared.oracle.OracleFault.TheVariants.{Refused}
use Rattle.func_core.specs.declared.functions.FuncFault.TheVariants.{TooBig}
use Rattle.odc_simplify.specs.Held.{held_meaning, held_refusals}
use Rattle.odc_simplify.proofs.Tests.{tests_ready, tests_long, tests_carried, one_more}
use Rattle.odc_simplify.proofs.tested.least_cover.Goals as goal

pub minimise-requires-clause-ready : goal.minimise-requires-clause-ready
minimise-requires-clause-ready g c =
    rw c.as_slice.ensures.value
    (tests_ready g.F.Functions.holds g.F.Functions.tree g.F.Functions.limit c.args.functions.now
    c.tests_of.new.functions c.args.leaves c.args.own c.args.seen c.args.inputs.now c.in-Ok.tests
    c.in-Ok.ensures.made c.requires.own_looks c.requires.seen_looks c.requires.inputs_look)

pub minimise-requires-clause-width : goal.minimise-requires-clause-width
minimise-requires-clause-width g c =
    rw c.as_slice.ensures.value
    (c.requires.width
    ∙ sym (tests_long g.F.Functions.holds g.F.Functions.tree g.F.Functions.limit
    c.args.functions.now c.tests_of.new.functions c.args.leaves c.args.own c.args.seen
    c.args.inputs.now c.in-Ok.tests c.in-Ok.ensures.made))

pub returns-in-Ok-clause-minimum : goal.returns-in-Ok-clause-minimum
returns-in-Ok-clause-minimum g c =
    tests_carried g.F.Functions.holds g.F.Functions.tree g.F.Functions.limit c.args.functions.now
    c.tests_of.new.functions c.args.leaves c.args.own c.args.seen c.args.inputs.now c.in-Ok.tests
    c.in-Ok.ensures.made
    (λ limit held. IfOk c.minimise.result (λ least. least ≡ record c.args.cover {
      rows = minimum_rows (held_meaning held) c.args.cover.rows;
    }))
    c.in-Ok.ensures.stays (rw c.as_slice.ensures.value at c.minimise.ensures.minimum)

pub returns-in-Ok-clause-refused : goal.returns-in-Ok-clause-refused
returns-in-Ok-clause-refused g c = λ h.
    inr (inr (tests_carried g.F.Functions.holds g.F.Functions.tree g.F.Functions.limit
    c.args.functions.now c.tests_of.new.functions c.args.leaves c.args.own c.args.seen
    c.args.inputs.now c.in-Ok.tests c.in-Ok.ensures.made
    (λ limit held. RefusesMinimum (held_meaning held) (held_refusals limit held) c.args.cover.rows)
    c.in-Ok.ensures.stays (rw c.as_slice.ensures.value at (c.minimise.ensures.refused h))))

pub returns-in-Err-clause-refused : goal.returns-in-Err-clause-refused
returns-in-Err-clause-refused g c = λ h.
    let same : c.fault_of.result ≡ Refused = cc in
    let big : c.in-Err.fault ≡ TooBig = c.fault_of.ensures.refused same in
    one_more _ _ _ (c.in-Err.ensures.refused (ap Err big))

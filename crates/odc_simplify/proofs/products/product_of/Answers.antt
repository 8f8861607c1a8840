use Rattle.std.proofs.Common.{rules, Err, ap, arith}
use Rattle.odc_simplify.proofs.Numbers.{failed}
use Rattle.odc_simplify.proofs.Walks.{multiplying_first, literal_due, multiplying_more, multiplying_refused, multiplying_last}
use Rattle.odc_simplify.proofs.products.product_of.Goals as goal

pub loop-place-init : goal.loop-place-init
loop-place-init g c =
    multiplying_first g.F.Functions.holds g.F.Functions.tree g.F.Functions.limit
    c.args.functions.now c.args.from c.args.literals.now (g.R.Row.literals c.args.row.now)
    c.requires.from

pub add_literal-requires-clause-from : goal.add_literal-requires-clause-from
add_literal-requires-clause-from g c = c.loop-place.invariant.stands

pub add_literal-requires-clause-literal : goal.add_literal-requires-clause-literal
add_literal-requires-clause-literal g c =
    literal_due g.F.Functions.holds g.F.Functions.tree g.F.Functions.limit c.args.functions.now
    c.loop-place.functions c.args.literals.now c.loop-place.place _ c.loop-place.invariant.stays
    c.requires.literals c.loop-place-test.true

pub returns-in_err-made-clause-makes : goal.returns-in_err-made-clause-makes
returns-in_err-made-clause-makes g c =
    failed _ _ _ c.in_err-made.field-0.0 _ _ (search rules) (λ gone.
    multiplying_refused g.F.Functions.holds g.F.Functions.tree g.F.Functions.limit
    c.args.functions.now c.loop-place.functions c.args.from c.loop-place.made
    c.args.literals.now (g.R.Row.literals c.args.row.now) c.loop-place.place _ c.at.result
    c.loop-place.invariant c.requires.literals c.loop-place-test.true c.requires.width c.at.ensures
    (c.in_err-made.ensures.makes.refused (ap Err gone)))

pub loop-place-preserved : goal.loop-place-preserved
loop-place-preserved g c =
    multiplying_more g.F.Functions.holds g.F.Functions.tree g.F.Functions.limit
    c.args.functions.now c.loop-place.functions c.args.from c.loop-place.made
    c.args.literals.now (g.R.Row.literals c.args.row.now) c.loop-place.place _ c.at.result
    c.loop-place.invariant c.requires.literals c.loop-place-test.true c.requires.width c.at.ensures
    c.add_literal.new.functions c.in_ok-made.made c.in_ok-made.ensures.stays
    c.in_ok-made.ensures.makes.made c.in_ok-made.ensures.makes.passed

pub returns-clause-makes : goal.returns-clause-makes
returns-clause-makes g c =
    let last =
    multiplying_last g.F.Functions.holds g.F.Functions.tree g.F.Functions.limit
    c.args.functions.now c.loop-place.functions c.args.from c.loop-place.made
    c.args.literals.now (g.R.Row.literals c.args.row.now) c.loop-place.place
    c.loop-place.invariant (omega (arith, c.loop-place-test.false)) in
    record { made = last.0; passed = last.1; refused = λ h. absurd cc }

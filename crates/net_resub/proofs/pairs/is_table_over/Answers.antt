use Rattle.std.proofs.Common.{Bool, ◌&&◌, ◌+◌, refl, sym, ap, ◌∙◌, arith}
use Rattle.net_resub.proofs.Over.{rows_over, told_row, no_row, entry_over}
use Rattle.net_resub.proofs.pairs.is_table_over.Goals as goal

pub loop-row-init : goal.loop-row-init
loop-row-init g c = refl

pub returns-then-not-is_row_over : goal.returns-then-not-is_row_over
returns-then-not-is_row_over g c =
    let step =
    told_row g.R.Row.literals c.args.names.now c.as_slice-inputs.result.now c.rows-rows.result.now c.loop-row.row-index c.row-item.result c.is_row_over.result
    (c.loop-row.row-index + 1) (omega (arith)) c.loop-row-test.true c.row-item.is c.is_row_over.ensures in
    sym
    (sym (entry_over g.R.Row.literals c.args.names.now c.as_slice-inputs.result.now c.rows-rows.result.now c.args.by.now c.as_slice-inputs.ensures c.rows-rows.ensures.items) ∙ (c.loop-row.invariant
    ∙ (step
    ∙ ap (λ (b : Bool). b && rows_over g.R.Row.literals c.args.names.now c.as_slice-inputs.result.now c.rows-rows.result.now (c.loop-row.row-index + 1)) c.if-not-is_row_over.true)))

pub loop-row-preserved : goal.loop-row-preserved
loop-row-preserved g c =
    let step =
    told_row g.R.Row.literals c.args.names.now c.as_slice-inputs.result.now c.rows-rows.result.now c.loop-row.row-index c.row-item.result c.is_row_over.result
    (c.loop-row.row-index + 1) (omega (arith)) c.loop-row-test.true c.row-item.is c.is_row_over.ensures in
    c.loop-row.invariant
    ∙ (step
    ∙ ap (λ (b : Bool). b && rows_over g.R.Row.literals c.args.names.now c.as_slice-inputs.result.now c.rows-rows.result.now (c.loop-row.row-index + 1)) c.if-not-is_row_over.false)

pub returns : goal.returns
returns g c =
    sym
    (sym (entry_over g.R.Row.literals c.args.names.now c.as_slice-inputs.result.now c.rows-rows.result.now c.args.by.now c.as_slice-inputs.ensures c.rows-rows.ensures.items) ∙ (c.loop-row.invariant
    ∙ no_row g.R.Row.literals c.args.names.now c.as_slice-inputs.result.now c.rows-rows.result.now c.loop-row.row-index c.loop-row-test.false))

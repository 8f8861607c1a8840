use Rattle.std.proofs.Common.{rules, Err, length, map, ap, arith}
use Rattle.std.proofs.lemmas.List.{drop_all}
use Rattle.cube_cover.proofs.Points.{width_read}
use Rattle.odc_simplify.proofs.Numbers.{literals_stay, failed}
use Rattle.odc_simplify.proofs.Walks.{taking_out_first, taking_out_more, taking_out_refused, taking_out_last, rows_from}
use Rattle.odc_simplify.proofs.products.without_rows.Goals as goal

pub loop-row-init : goal.loop-row-init
loop-row-init g c =
    taking_out_first g.F.Functions.holds g.F.Functions.tree g.F.Functions.limit
    c.args.functions.now c.args.from c.args.literals.now (map g.R.Row.literals c.args.rows.now)
    c.requires.from

pub without_row-requires-clause-from : goal.without_row-requires-clause-from
without_row-requires-clause-from g c = c.loop-row.invariant.stands

pub without_row-requires-clause-literals : goal.without_row-requires-clause-literals
without_row-requires-clause-literals g c =
    literals_stay g.F.Functions.holds g.F.Functions.tree g.F.Functions.limit c.args.functions.now
    c.loop-row.functions c.args.literals.now c.loop-row.invariant.stays c.requires.literals

pub without_row-requires-clause-width : goal.without_row-requires-clause-width
without_row-requires-clause-width g c =
    width_read g.R.Row.literals (length c.args.literals.now) c.args.rows.now c.loop-row.row-index
    c.row-item.result c.requires.widths (omega arith) c.row-item.is

pub returns-in_err-left-clause-makes : goal.returns-in_err-left-clause-makes
returns-in_err-left-clause-makes g c =
    failed _ _ _ c.in_err-left.field-0.0 _ _ (search rules) (λ gone.
    taking_out_refused g.F.Functions.holds g.F.Functions.tree g.F.Functions.limit
    c.args.functions.now c.loop-row.functions c.args.from c.loop-row.left c.args.literals.now
    (map g.R.Row.literals c.args.rows.now) _ _ (g.R.Row.literals c.row-item.result)
    c.loop-row.invariant c.requires.literals
    (rows_from g.R.Row.literals c.args.rows.now c.loop-row.row-index c.row-item.result (omega arith)
    c.row-item.is)
    (c.in_err-left.ensures.makes.refused (ap Err gone)))

pub loop-row-preserved : goal.loop-row-preserved
loop-row-preserved g c =
    taking_out_more g.F.Functions.holds g.F.Functions.tree g.F.Functions.limit
    c.args.functions.now c.loop-row.functions c.without_row.new.functions c.args.from
    c.loop-row.left c.in_ok-left.left c.args.literals.now
    (map g.R.Row.literals c.args.rows.now) _ _ (g.R.Row.literals c.row-item.result)
    c.loop-row.invariant c.requires.literals
    (rows_from g.R.Row.literals c.args.rows.now c.loop-row.row-index c.row-item.result (omega arith)
    c.row-item.is)
    c.in_ok-left.ensures.stays c.in_ok-left.ensures.makes.made c.in_ok-left.ensures.makes.passed

pub returns-clause-makes : goal.returns-clause-makes
returns-clause-makes g c =
    let last =
    taking_out_last g.F.Functions.holds g.F.Functions.tree g.F.Functions.limit
    c.args.functions.now c.loop-row.functions c.args.from c.loop-row.left c.args.literals.now
    (map g.R.Row.literals c.args.rows.now) _ c.loop-row.invariant
    (ap (map g.R.Row.literals) (drop_all c.loop-row.row-index c.args.rows.now (omega arith))) in
    record { made = last.0; passed = last.1; refused = λ h. absurd cc }

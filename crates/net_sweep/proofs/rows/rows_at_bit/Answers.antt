use Rattle.net_sweep.specs.Columns.{row_at_marks}
use Rattle.circuit_tables.proofs.FoldSteps.{rows_more}
use Rattle.net_sweep.proofs.rows.rows_at_bit.Goals as goal

pub loop-row-preserved : goal.loop-row-preserved
loop-row-preserved c =
    rows_more (row_at_marks c.args.bit c.args.marks.now) c.args.rows.now c.loop-row.made c.add_row.new.rows c.loop-row.row-index c.row-item.result c.as_slice.result.now c.in_ok-left.left
    c.loop-row-test.true c.row-item.is c.as_slice.ensures c.in_ok-left.ensures c.in_ok-add_row.ensures c.loop-row.invariant

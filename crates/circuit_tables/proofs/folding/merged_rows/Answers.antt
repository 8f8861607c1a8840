use Rattle.circuit_tables.specs.Listing.{merge_row, dashes_of}
use Rattle.circuit_tables.proofs.FoldSteps.{rows_more}
use Rattle.circuit_tables.proofs.folding.merged_rows.Goals as goal

pub loop-row-preserved : goal.loop-row-preserved
loop-row-preserved c =
    rows_more (merge_row (dashes_of c.args.names.now) c.args.places.now) c.args.rows.now c.loop-row.made c.add_row.new.rows c.loop-row.row-index c.row-item.result c.as_slice.result.now c.in_ok-merged_row.field-0
    c.loop-row-test.true c.row-item.is c.as_slice.ensures c.in_ok-merged_row.ensures c.in_ok-add_row.ensures c.loop-row.invariant

use Rattle.std.proofs.Common.{◌-◌, bytes_eq, arith}
use Rattle.indexmap.specs.IndexMap.{get}
use Rattle.subject_tree.proofs.Counting.{rows_uncounted, rows_counted}
use Rattle.subject_tree.proofs.judging.count_rows.Goals as goal

pub loop-place-init : goal.loop-place-init
loop-place-init c = record { within = omega arith; counts = rows_uncounted (get bytes_eq c.args.counts.now) c.args.inputs.now c.args.rows.now }

pub loop-place-preserved : goal.loop-place-preserved
loop-place-preserved c = record {
  within = omega (arith, c.loop-place.invariant.within);
  counts = rows_counted (get bytes_eq c.args.counts.now) (get bytes_eq c.loop-place.counts) (get bytes_eq c.count_row.new.counts) c.args.inputs.now c.args.rows.now (c.loop-place.place - 1) c.loop-place.place
      c.index-rows-place.result c.as_slice.result.now (omega arith) c.loop-place.invariant.within c.index-rows-place.is c.as_slice.ensures c.loop-place.invariant.counts c.in_ok-count_row.ensures;
}

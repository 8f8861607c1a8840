use Rattle.std.proofs.Common.{◌-◌, bytes_eq, arith}
use Rattle.indexmap.specs.IndexMap.{get}
use Rattle.subject_tree.proofs.Counting.{row_uncounted, row_counted}
use Rattle.subject_tree.proofs.judging.count_row.Goals as goal

pub loop-place-init : goal.loop-place-init
loop-place-init c = record { within = omega arith; counts = row_uncounted (get bytes_eq c.args.counts.now) c.args.inputs.now c.args.row.now }

pub loop-place-preserved : goal.loop-place-preserved
loop-place-preserved c = record {
  within = omega (arith, c.loop-place.invariant.within);
  counts = row_counted (get bytes_eq c.args.counts.now) (get bytes_eq c.loop-place.counts) (get bytes_eq c.count_character.new.counts) c.args.inputs.now c.args.row.now (c.loop-place.place - 1) c.loop-place.place
      c.index-inputs-place.result _ (omega arith) c.loop-place.invariant.within c.requires c.index-inputs-place.is c.loop-place.invariant.counts c.in_ok-count_character.ensures;
}

use Rattle.std.proofs.Common.{◌≡◌, ◌-◌, None, bytes_eq, ap, arith, rules}
use Rattle.indexmap.specs.IndexMap.{get}
use Rattle.subject_tree.specs.Forest.{count_in}
use Rattle.subject_tree.proofs.Counting.{uses_begun, uses_counted, shaped_rows}
use Rattle.subject_tree.proofs.judging.count_uses.Goals as goal

pub loop-place-init : goal.loop-place-init
loop-place-init c = record {
  within = omega arith;
  counts = uses_begun c.args.tables.now (get bytes_eq c.new-counts.result) (λ signal. let e : get bytes_eq c.new-counts.result signal ≡ None = search rules in ap count_in e);
}

pub count_rows-requires : goal.count_rows-requires
count_rows-requires c =
    shaped_rows c.args.tables.now (c.loop-place.place - 1) c.index-tables-place.result c.as_slice.result.now c.as_slice-in-loop-place.result.now c.requires (omega (arith, c.loop-place.invariant.within)) c.index-tables-place.is c.as_slice.ensures c.as_slice-in-loop-place.ensures

pub loop-place-preserved : goal.loop-place-preserved
loop-place-preserved c = record {
  within = omega (arith, c.loop-place.invariant.within);
  counts = uses_counted (get bytes_eq c.loop-place.counts) (get bytes_eq c.count_rows.new.counts) c.args.tables.now (c.loop-place.place - 1) c.loop-place.place
      c.index-tables-place.result c.as_slice.result.now c.as_slice-in-loop-place.result.now (omega arith) c.loop-place.invariant.within c.index-tables-place.is c.as_slice.ensures c.as_slice-in-loop-place.ensures c.loop-place.invariant.counts c.in_ok-count_rows.ensures;
}

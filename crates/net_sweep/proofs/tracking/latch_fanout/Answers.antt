use Rattle.std.proofs.Common.{bytes_eq}
use Rattle.indexmap.specs.IndexMap.{get}
use Rattle.net_sweep.proofs.Enqueuing.{under_more}
use Rattle.net_sweep.proofs.tracking.latch_fanout.Goals as goal

pub loop-place-preserved : goal.loop-place-preserved
loop-place-preserved c =
    under_more c.args.latches.now c.loop-place.place c.index-latches-place.result (get bytes_eq c.loop-place.lists) (get bytes_eq c.add_place.new.lists) c.loop-place-test.true c.index-latches-place.is c.loop-place.invariant
    c.in_ok-add_place.ensures

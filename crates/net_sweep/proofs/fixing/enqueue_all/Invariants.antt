use Rattle.std.proofs.Common.{take, bytes_eq}
use Rattle.std.specs.Ordering.{nat_cmp}
use Rattle.std.specs.BTreeSet.{contains}
use Rattle.indexmap.specs.IndexMap.{get}
use Rattle.net_sweep.proofs.Enqueuing.{HasEnqueued}
use Rattle.net_sweep.proofs.fixing.enqueue_all.Given as goal

abbrev pub invariant-loop-place : goal.invariant-loop-place
invariant-loop-place l = HasEnqueued (get bytes_eq l.fanout) l.aliased.tables (take l.place-index l.places) (contains nat_cmp l.fn.waiting) (contains nat_cmp l.waiting)

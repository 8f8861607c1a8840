use Rattle.std.specs.Ordering.{nat_cmp}
use Rattle.std.specs.BTreeSet.{contains, btree_set_len}
use Rattle.net_sweep.specs.Settled.{AreWaiting}
use Rattle.net_sweep.specs.Latches.{is_fixed}
use Rattle.net_sweep.proofs.latches.first_fixed.Given as goal

abbrev pub invariant-loop-place : goal.invariant-loop-place
invariant-loop-place l = AreWaiting (is_fixed l.aliased) (contains nat_cmp l.waiting) l.slots

abbrev pub decreases-loop-place : goal.decreases-loop-place
decreases-loop-place l = btree_set_len l.waiting

use Rattle.std.specs.Ordering.{nat_cmp}
use Rattle.std.specs.BTreeSet.{contains, btree_set_len}
use Rattle.net_sweep.specs.Settled.{passes, AreWaiting}
use Rattle.net_sweep.proofs.applying.first_place.Given as goal

abbrev pub invariant-loop-place : goal.invariant-loop-place
invariant-loop-place g l = AreWaiting (passes l.rule l.aliased.tables) (contains nat_cmp l.waiting) l.aliased.tables

abbrev pub decreases-loop-place : goal.decreases-loop-place
decreases-loop-place g l = btree_set_len l.waiting

use Rattle.std.proofs.Common.{◌-◌, length}
use Rattle.std.specs.Ordering.{nat_cmp}
use Rattle.std.specs.BTreeSet.{contains}
use Rattle.circuit_order.proofs.Underway.{IsUnderway}
use Rattle.circuit_order.proofs.listing.order.Given as goal

abbrev pub invariant-loop-place : goal.invariant-loop-place
invariant-loop-place l = IsUnderway l.tables l.listed l.waiting.items (contains nat_cmp l.ready)

abbrev pub decreases-loop-place : goal.decreases-loop-place
decreases-loop-place l = length l.tables - length l.listed

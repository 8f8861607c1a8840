use Rattle.std.proofs.Common.{◌≡◌, ℕ, take, slice_get}
use Rattle.std.specs.Ordering.{nat_cmp}
use Rattle.std.specs.BTreeSet.{contains}
use Rattle.circuit_order.specs.Places.{is_done}
use Rattle.circuit_order.proofs.counts.done_places.Given as goal

abbrev pub invariant-loop-place : goal.invariant-loop-place
invariant-loop-place l = (i : ℕ) → contains nat_cmp l.ready i ≡ is_done (slice_get (take l.place l.counts) i)

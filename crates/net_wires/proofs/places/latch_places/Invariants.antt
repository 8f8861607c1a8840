use Rattle.std.proofs.Common.{◌≡◌, ℕ, ◌≤◌, List, length, drop, bytes_eq}
use Rattle.indexmap.specs.IndexMap.{get}
use Rattle.net_wires.specs.Places.{holder, item_at}
use Rattle.net_wires.proofs.places.latch_places.Given as goal

abbrev pub invariant-loop-left : goal.invariant-loop-left
invariant-loop-left l = (l.left ≤ length l.latches) × ((name : List ℕ) → item_at l.latches (get bytes_eq l.places name) ≡ holder (drop l.left l.latches) name)

abbrev pub decreases-loop-left : goal.decreases-loop-left
decreases-loop-left l = l.left

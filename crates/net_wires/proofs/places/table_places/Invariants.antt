use Rattle.std.proofs.Common.{◌≡◌, ℕ, ◌≤◌, List, length, drop, bytes_eq}
use Rattle.indexmap.specs.IndexMap.{get}
use Rattle.circuit_model.specs.Values.{driver}
use Rattle.net_wires.specs.Places.{item_at}
use Rattle.net_wires.proofs.places.table_places.Given as goal

abbrev pub invariant-loop-left : goal.invariant-loop-left
invariant-loop-left l = (l.left ≤ length l.tables) × ((name : List ℕ) → item_at l.tables (get bytes_eq l.places name) ≡ driver (drop l.left l.tables) name)

abbrev pub decreases-loop-left : goal.decreases-loop-left
decreases-loop-left l = l.left

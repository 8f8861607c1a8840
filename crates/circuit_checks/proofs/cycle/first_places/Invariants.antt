use Rattle.std.proofs.Common.{◌≡◌, ◌≤◌, ℕ, List, length, take, bytes_eq}
use Rattle.std.specs.Option.{option_or}
use Rattle.indexmap.specs.IndexMap.{get}
use Rattle.circuit_model.specs.Soundness.{outputs_of}
use Rattle.circuit_checks.specs.Sets.{place_in}
use Rattle.circuit_checks.proofs.cycle.first_places.Given as goal

abbrev pub invariant-loop-left : goal.invariant-loop-left
invariant-loop-left l = record {
  within : l.left ≤ length l.tables;
  places : (name : List ℕ) → option_or (place_in (outputs_of (take l.left l.tables)) name) (get bytes_eq l.firsts name) ≡ place_in (outputs_of l.tables) name;
}

abbrev pub decreases-loop-left : goal.decreases-loop-left
decreases-loop-left l = l.left

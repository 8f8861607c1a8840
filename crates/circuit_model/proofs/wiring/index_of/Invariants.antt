use Rattle.std.proofs.Common.{◌≡◌, ℕ, List, bytes_eq, vec_len}
use Rattle.std.specs.Option.{option_or}
use Rattle.indexmap.specs.IndexMap.{get}
use Rattle.circuit_model.specs.Levels.{place_in}
use Rattle.circuit_model.proofs.wiring.index_of.Given as goal

abbrev pub invariant-loop-name : goal.invariant-loop-name
invariant-loop-name l = (name : List ℕ) → option_or (place_in l.left.items name) (get bytes_eq l.index name) ≡ place_in l.fn.names.items name

abbrev pub decreases-loop-name : goal.decreases-loop-name
decreases-loop-name l = vec_len l.left

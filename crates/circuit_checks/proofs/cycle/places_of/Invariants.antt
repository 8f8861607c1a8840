use Rattle.std.proofs.Common.{◌≡◌, take, bytes_eq}
use Rattle.std.specs.List.{filter_map}
use Rattle.indexmap.specs.IndexMap.{get}
use Rattle.circuit_checks.proofs.cycle.places_of.Given as goal

abbrev pub invariant-loop-name : goal.invariant-loop-name
invariant-loop-name l = l.places ≡ filter_map (get bytes_eq l.firsts) (take l.name-index l.names)

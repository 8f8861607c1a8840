use Rattle.std.proofs.Common.{◌≡◌, Some, map, take, bytes_eq}
use Rattle.indexmap.specs.IndexMap.{get}
use Rattle.net_work.proofs.ordering.known_places.Given as goal

abbrev pub invariant-loop-name : goal.invariant-loop-name
invariant-loop-name l = map Some l.found.items ≡ map (get bytes_eq l.places) (take l.name-index l.names)

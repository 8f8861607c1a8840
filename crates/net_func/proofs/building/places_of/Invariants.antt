use Rattle.std.proofs.Common.{take, bytes_eq}
use Rattle.indexmap.specs.IndexMap.{get}
use Rattle.circuit_order.specs.Places.{IsIndex}
use Rattle.net_func.proofs.building.places_of.Given as goal

-- the indices of the tables so far
abbrev pub invariant-loop-place : goal.invariant-loop-place
invariant-loop-place l = IsIndex (take l.place l.tables) (get bytes_eq l.places)

use Rattle.std.proofs.Common.{◌≡◌, take, bytes_eq}
use Rattle.circuit_model.specs.Levels.{latch_places}
use Rattle.indexmap.specs.IndexMap.{get}
use Rattle.circuit_model.proofs.wiring.latch_places.Given as goal

abbrev pub invariant-loop-latch : goal.invariant-loop-latch
invariant-loop-latch l = l.places ≡ latch_places (get bytes_eq l.index) (take l.latch-index l.latches)

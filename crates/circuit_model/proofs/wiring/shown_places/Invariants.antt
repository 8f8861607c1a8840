use Rattle.std.proofs.Common.{◌≡◌, take, bytes_eq}
use Rattle.circuit_model.specs.Levels.{output_places}
use Rattle.indexmap.specs.IndexMap.{get}
use Rattle.circuit_model.proofs.wiring.shown_places.Given as goal

abbrev pub invariant-loop-name : goal.invariant-loop-name
invariant-loop-name l = l.places ≡ output_places (get bytes_eq l.signals) (get bytes_eq l.dont_cares) (take l.name-index l.outputs)

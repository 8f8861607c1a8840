use Rattle.std.proofs.Common.{◌≡◌, map, take}
use Rattle.circuit_model.specs.Levels.{tri_at}
use Rattle.circuit_model.proofs.simulation.shown_at.Given as goal

abbrev pub invariant-loop-places : goal.invariant-loop-places
invariant-loop-places l = l.shown ≡ map (tri_at l.bits l.free_bits) (take l.places-index l.outputs)

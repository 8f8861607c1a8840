use Rattle.std.proofs.Common.{◌≡◌, map, take}
use Rattle.circuit_model.specs.Levels.{bit_at}
use Rattle.circuit_model.proofs.simulation.bits_at.Given as goal

abbrev pub invariant-loop-place : goal.invariant-loop-place
invariant-loop-place l = l.found.items ≡ map (bit_at l.bits) (take l.place-index l.places)

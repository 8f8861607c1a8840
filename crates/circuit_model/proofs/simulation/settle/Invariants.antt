use Rattle.std.proofs.Common.{◌≡◌}
use Rattle.circuit_model.specs.Levels.{bits_to}
use Rattle.circuit_model.proofs.simulation.settle.Given as goal

abbrev pub invariant-loop-depth : goal.invariant-loop-depth
invariant-loop-depth l = l.bits.items ≡ bits_to l.tables l.reads l.front l.back l.depth

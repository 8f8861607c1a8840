use Rattle.std.proofs.Common.{◌≡◌, ◌++◌, drop}
use Rattle.circuit_model.specs.Levels.{level_of}
use Rattle.circuit_model.proofs.simulation.add_level.Given as goal

abbrev pub invariant-loop-i : goal.invariant-loop-i
invariant-loop-i l = l.bits.items ++ level_of (drop l.i l.tables) (drop l.i l.reads) l.old ≡ l.fn.bits.items ++ level_of l.tables l.reads l.old

use Rattle.std.proofs.Common.{take}
use Rattle.circuit_checks.specs.Sets.{Alike}
use Rattle.blif_lines.proofs.ports.set_of.Given as goal

abbrev pub invariant-loop-name : goal.invariant-loop-name
invariant-loop-name l = Alike l.set.keys (take l.name-index l.names)

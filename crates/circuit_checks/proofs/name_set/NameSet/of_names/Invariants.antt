use Rattle.std.proofs.Common.{take}
use Rattle.circuit_checks.specs.Sets.{Alike}
use Rattle.circuit_checks.proofs.name_set.NameSet.of_names.Given as goal

abbrev pub invariant-loop-name : goal.invariant-loop-name
invariant-loop-name l = Alike l.set (take l.name-index l.names)

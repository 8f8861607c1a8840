use Rattle.std.proofs.Common.{◌++◌, take}
use Rattle.circuit_model.specs.Soundness.{outputs_of}
use Rattle.circuit_checks.specs.Sets.{Alike}
use Rattle.circuit_checks.proofs.part_check.known_names.Given as goal

abbrev pub invariant-loop-table : goal.invariant-loop-table
invariant-loop-table l = Alike l.set (outputs_of (take l.table-index l.part) ++ l.leaves)

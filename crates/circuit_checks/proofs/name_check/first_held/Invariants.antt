use Rattle.std.proofs.Common.{◌≡◌, drop}
use Rattle.circuit_checks.specs.NameChecks.{first_again}
use Rattle.circuit_checks.proofs.name_check.first_held.Given as goal

abbrev pub invariant-loop-name : goal.invariant-loop-name
invariant-loop-name l = first_again l.set (drop l.name-index l.names) ≡ first_again l.fn.set l.names

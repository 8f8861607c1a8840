use Rattle.std.proofs.Common.{◌≡◌}
use Rattle.circuit_gen.specs.Generated.{signals}
use Rattle.circuit_gen.proofs.naming.signal_names.Given as goal

abbrev pub invariant-loop-number : goal.invariant-loop-number
invariant-loop-number l = l.names.items ≡ signals 0 l.number

use Rattle.std.proofs.Common.{◌≡◌}
use Rattle.circuit_gen.specs.Generated.{signals}
use Rattle.circuit_gen.proofs.naming.names_from.Given as goal

abbrev pub invariant-loop-place : goal.invariant-loop-place
invariant-loop-place l = l.made.items ≡ signals l.first l.place

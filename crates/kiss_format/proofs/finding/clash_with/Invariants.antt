use Rattle.std.proofs.Common.{◌≡◌, drop}
use Rattle.circuit_model.specs.Clashes.{clash_with}
use Rattle.kiss_format.proofs.finding.clash_with.Given as goal

abbrev pub invariant-loop-place : goal.invariant-loop-place
invariant-loop-place l = clash_with 0 l.front l.row ≡ clash_with l.place (drop l.place l.front) l.row

use Rattle.circuit_checks.proofs.Parts.{IsWalked}
use Rattle.circuit_checks.proofs.part_check.first_bad.Given as goal

abbrev pub invariant-loop-place : goal.invariant-loop-place
invariant-loop-place l = IsWalked l.leaves l.part l.place l.before l.cyclic

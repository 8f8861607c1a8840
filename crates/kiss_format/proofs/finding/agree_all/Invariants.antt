use Rattle.std.proofs.Common.{◌≡◌, drop}
use Rattle.circuit_model.specs.Clashes.{agree_all}
use Rattle.kiss_format.proofs.finding.agree_all.Given as goal

abbrev pub invariant-loop-i : goal.invariant-loop-i
invariant-loop-i l = agree_all l.row l.other ≡ agree_all (drop l.i l.row) (drop l.i l.other)

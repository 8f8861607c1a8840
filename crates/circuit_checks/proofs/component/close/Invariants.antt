use Rattle.std.proofs.Common.{length}
use Rattle.circuit_checks.proofs.component.close.Given as goal

abbrev pub decreases-loop-last : goal.decreases-loop-last
decreases-loop-last l = goal.left-loop-last l

use Rattle.cube_packed.proofs.PlaneLiterals.{IsFilled}
use Rattle.cube_packed.proofs.row.PackedRow.from_literals.Given as goal

abbrev pub invariant-loop-place : goal.invariant-loop-place
invariant-loop-place l = IsFilled l.row l.literals l.place

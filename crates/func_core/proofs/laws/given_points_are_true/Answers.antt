use Rattle.func_core.proofs.Meanings.{true-somewhere}
use Rattle.func_core.proofs.Points.{no-point-zero, point-true, point-rises}
use Rattle.func_core.proofs.laws.given_points_are_true.Goals as goal

pub returns-clause-somewhere : goal.returns-clause-somewhere
returns-clause-somewhere c = true-somewhere

pub returns-clause-none : goal.returns-clause-none
returns-clause-none c = no-point-zero

pub returns-clause-one : goal.returns-clause-one
returns-clause-one c = point-true 0

pub returns-clause-rises : goal.returns-clause-rises
returns-clause-rises c = point-rises 0

use Rattle.net_decomp.proofs.PartedSteps.{step_extended, reached_extended}
use Rattle.net_decomp.proofs.laws.steps_keep.Goals as goal

pub returns-clause-step : goal.returns-clause-step
returns-clause-step c = step_extended

pub returns-clause-reached : goal.returns-clause-reached
returns-clause-reached c = reached_extended

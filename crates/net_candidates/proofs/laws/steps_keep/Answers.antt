use Rattle.net_candidates.proofs.RuleKeeping.{step_extended, reached_extended}
use Rattle.net_candidates.proofs.laws.steps_keep.Goals as goal

pub returns-clause-step : goal.returns-clause-step
returns-clause-step c = step_extended

pub returns-clause-reached : goal.returns-clause-reached
returns-clause-reached c = reached_extended

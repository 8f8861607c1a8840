use Rattle.net_elim.proofs.Stepping.{step_reduced, step_finished}
use Rattle.net_elim.proofs.laws.steps_keep.Goals as goal

pub returns-clause-kept : goal.returns-clause-kept
returns-clause-kept c = step_reduced

pub returns-clause-finished : goal.returns-clause-finished
returns-clause-finished c = step_finished

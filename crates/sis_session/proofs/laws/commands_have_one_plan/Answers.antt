use Rattle.sis_session.proofs.Once.{plans_once}
use Rattle.sis_session.proofs.laws.commands_have_one_plan.Goals as goal

pub returns : goal.returns
returns c = plans_once

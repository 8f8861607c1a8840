use Rattle.sis_session.proofs.Once.{one_ending}
use Rattle.sis_session.proofs.laws.commands_end_once.Goals as goal

pub returns : goal.returns
returns c = one_ending

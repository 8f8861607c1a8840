use Rattle.sis_session.proofs.Serving.{served_done}
use Rattle.sis_session.proofs.laws.served_commands_are_done.Goals as goal

pub returns : goal.returns
returns c = served_done

use Rattle.sis_script.proofs.Lawful.{options_come_once}
use Rattle.sis_script.proofs.laws.options_come_once.Goals as goal

pub returns : goal.returns
returns c = options_come_once

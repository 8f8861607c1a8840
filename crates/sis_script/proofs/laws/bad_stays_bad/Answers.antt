use Rattle.sis_script.proofs.Lawful.{bad_stays_bad}
use Rattle.sis_script.proofs.laws.bad_stays_bad.Goals as goal

pub returns : goal.returns
returns c = bad_stays_bad

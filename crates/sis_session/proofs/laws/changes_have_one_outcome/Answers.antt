use Rattle.sis_session.proofs.Once.{changes_once}
use Rattle.sis_session.proofs.laws.changes_have_one_outcome.Goals as goal

pub returns : goal.returns
returns c = changes_once

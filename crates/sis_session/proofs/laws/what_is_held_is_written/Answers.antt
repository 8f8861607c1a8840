use Rattle.sis_session.proofs.Effects.{areas_step, saved_step, put_step}
use Rattle.sis_session.proofs.laws.what_is_held_is_written.Goals as goal

pub returns-clause-saved : goal.returns-clause-saved
returns-clause-saved c = saved_step

pub returns-clause-put : goal.returns-clause-put
returns-clause-put c = put_step

pub returns-clause-areas : goal.returns-clause-areas
returns-clause-areas c = areas_step

use Rattle.sis_session.proofs.Effects.{refined_nothing, refined_step}
use Rattle.sis_session.proofs.laws.steps_keep_refinement.Goals as goal

pub returns-clause-begun : goal.returns-clause-begun
returns-clause-begun c = refined_nothing

pub returns-clause-kept : goal.returns-clause-kept
returns-clause-kept c = refined_step

use Rattle.circuit_model.proofs.Refinement.{refines-itself}
use Rattle.circuit_model.proofs.laws.refines_is_reflexive.Goals as goal

pub returns : goal.returns
returns c = refines-itself

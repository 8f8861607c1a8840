use Rattle.circuit_model.proofs.Refinement.{refines-through}
use Rattle.circuit_model.proofs.laws.refines_is_transitive.Goals as goal

pub returns : goal.returns
returns c = refines-through

use Rattle.circuit_laws.proofs.Same.{same_itself}
use Rattle.circuit_laws.proofs.sameness.same_is_reflexive.Goals as goal

pub returns : goal.returns
returns c = same_itself

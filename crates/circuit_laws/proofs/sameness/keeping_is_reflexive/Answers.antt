use Rattle.circuit_laws.proofs.Same.{keeps_itself}
use Rattle.circuit_laws.proofs.sameness.keeping_is_reflexive.Goals as goal

pub returns : goal.returns
returns c = keeps_itself

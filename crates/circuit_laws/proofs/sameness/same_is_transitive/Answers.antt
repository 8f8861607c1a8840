use Rattle.circuit_laws.proofs.Same.{same_through}
use Rattle.circuit_laws.proofs.sameness.same_is_transitive.Goals as goal

pub returns : goal.returns
returns c = same_through

use Rattle.circuit_laws.proofs.Same.{keeps_through}
use Rattle.circuit_laws.proofs.sameness.keeping_is_transitive.Goals as goal

pub returns : goal.returns
returns c = keeps_through

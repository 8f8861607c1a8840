use Rattle.circuit_laws.proofs.Same.{same_turned}
use Rattle.circuit_laws.proofs.sameness.same_is_symmetric.Goals as goal

pub returns : goal.returns
returns c = same_turned

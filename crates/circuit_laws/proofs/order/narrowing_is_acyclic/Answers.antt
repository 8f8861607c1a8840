use Rattle.circuit_laws.proofs.Paths.{narrowed_acyclic}
use Rattle.circuit_laws.proofs.order.narrowing_is_acyclic.Goals as goal

pub returns : goal.returns
returns c = narrowed_acyclic

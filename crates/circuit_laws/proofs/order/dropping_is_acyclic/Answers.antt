use Rattle.circuit_laws.proofs.Paths.{kept_acyclic}
use Rattle.circuit_laws.proofs.order.dropping_is_acyclic.Goals as goal

pub returns : goal.returns
returns c = kept_acyclic

use Rattle.circuit_laws.proofs.Paths.{added_acyclic}
use Rattle.circuit_laws.proofs.order.adding_is_acyclic.Goals as goal

pub returns : goal.returns
returns c = added_acyclic

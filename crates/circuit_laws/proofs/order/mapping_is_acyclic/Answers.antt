use Rattle.circuit_laws.proofs.Paths.{mapped_acyclic}
use Rattle.circuit_laws.proofs.order.mapping_is_acyclic.Goals as goal

pub returns : goal.returns
returns c = mapped_acyclic

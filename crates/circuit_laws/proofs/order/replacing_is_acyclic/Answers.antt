use Rattle.circuit_laws.proofs.Paths.{replaced_acyclic}
use Rattle.circuit_laws.proofs.order.replacing_is_acyclic.Goals as goal

pub returns : goal.returns
returns c = replaced_acyclic

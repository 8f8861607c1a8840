use Rattle.circuit_laws.proofs.Values.{valued}
use Rattle.circuit_laws.proofs.valuations.values_are_due.Goals as goal

pub returns : goal.returns
returns c = valued

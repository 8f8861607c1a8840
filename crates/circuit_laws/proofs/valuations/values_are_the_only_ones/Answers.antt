use Rattle.circuit_laws.proofs.Values.{value_only}
use Rattle.circuit_laws.proofs.valuations.values_are_the_only_ones.Goals as goal

pub returns : goal.returns
returns c = value_only

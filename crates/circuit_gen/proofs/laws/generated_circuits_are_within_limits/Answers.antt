use Rattle.circuit_gen.proofs.Sound.{within_limits}
use Rattle.circuit_gen.proofs.laws.generated_circuits_are_within_limits.Goals as goal

pub returns : goal.returns
returns c = within_limits

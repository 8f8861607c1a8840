use Rattle.circuit_laws.proofs.Sound.{sound_settled}
use Rattle.circuit_laws.proofs.sameness.sound_circuits_are_settled.Goals as goal

pub returns : goal.returns
returns c = sound_settled

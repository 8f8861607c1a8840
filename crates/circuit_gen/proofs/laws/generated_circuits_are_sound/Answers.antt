use Rattle.circuit_gen.proofs.Sound.{sound}
use Rattle.circuit_gen.proofs.laws.generated_circuits_are_sound.Goals as goal

pub returns : goal.returns
returns c = sound

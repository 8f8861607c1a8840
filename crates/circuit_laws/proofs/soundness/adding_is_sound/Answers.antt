use Rattle.circuit_laws.proofs.Sound.{sound_added}
use Rattle.circuit_laws.proofs.soundness.adding_is_sound.Goals as goal

pub returns : goal.returns
returns c = sound_added

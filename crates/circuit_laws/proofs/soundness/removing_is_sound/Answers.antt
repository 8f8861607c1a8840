use Rattle.circuit_laws.proofs.Sound.{sound_removed}
use Rattle.circuit_laws.proofs.soundness.removing_is_sound.Goals as goal

pub returns : goal.returns
returns c = sound_removed

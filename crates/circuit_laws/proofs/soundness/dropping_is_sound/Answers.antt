use Rattle.circuit_laws.proofs.Sound.{sound_kept}
use Rattle.circuit_laws.proofs.soundness.dropping_is_sound.Goals as goal

pub returns : goal.returns
returns c = sound_kept

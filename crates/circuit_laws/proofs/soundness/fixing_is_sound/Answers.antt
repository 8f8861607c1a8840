use Rattle.circuit_laws.proofs.FixedSound.{sound_fixed}
use Rattle.circuit_laws.proofs.soundness.fixing_is_sound.Goals as goal

pub returns : goal.returns
returns c = sound_fixed

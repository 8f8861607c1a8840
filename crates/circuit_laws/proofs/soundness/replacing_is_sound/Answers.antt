use Rattle.circuit_laws.proofs.Sound.{sound_replaced}
use Rattle.circuit_laws.proofs.soundness.replacing_is_sound.Goals as goal

pub returns : goal.returns
returns c = sound_replaced

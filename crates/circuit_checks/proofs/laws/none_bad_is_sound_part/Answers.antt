use Rattle.circuit_checks.proofs.Parts.{part_sound, part_passes}
use Rattle.circuit_checks.proofs.laws.none_bad_is_sound_part.Goals as goal

pub returns : goal.returns
returns c = λ leaves part. ((λ h. part_sound leaves part h), (λ h. part_passes leaves part h.0 h.1 h.2))

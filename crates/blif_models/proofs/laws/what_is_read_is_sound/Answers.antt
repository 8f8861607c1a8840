use Rattle.blif_models.proofs.WhatIsRead.{sound_models, sound_head_models}
use Rattle.blif_models.proofs.laws.what_is_read_is_sound.Goals as goal

pub returns-clause-circuit : goal.returns-clause-circuit
returns-clause-circuit c = sound_models

pub returns-clause-head : goal.returns-clause-head
returns-clause-head c = sound_head_models

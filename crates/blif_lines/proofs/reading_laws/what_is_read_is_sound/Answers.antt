use Rattle.blif_lines.proofs.WhatIsRead.{sound_read, sound_head_read}
use Rattle.blif_lines.proofs.reading_laws.what_is_read_is_sound.Goals as goal

pub returns-clause-circuit : goal.returns-clause-circuit
returns-clause-circuit c = sound_read

pub returns-clause-head : goal.returns-clause-head
returns-clause-head c = sound_head_read

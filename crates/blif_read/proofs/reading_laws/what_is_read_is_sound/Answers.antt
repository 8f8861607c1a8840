use Rattle.blif_read.proofs.WhatIsRead.{spec_sound}
use Rattle.blif_read.proofs.reading_laws.what_is_read_is_sound.Goals as goal

pub returns : goal.returns
returns c = spec_sound

use Rattle.blif_read.proofs.WhatIsRead.{spec_small, spec_short}
use Rattle.blif_read.proofs.reading_laws.what_is_read_is_small.Goals as goal

pub returns-clause-limits : goal.returns-clause-limits
returns-clause-limits c = spec_small

pub returns-clause-short : goal.returns-clause-short
returns-clause-short c = spec_short

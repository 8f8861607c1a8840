use Rattle.blif_lines.proofs.WhatIsRead.{small_read, short_read, short_head_read}
use Rattle.blif_lines.proofs.reading_laws.what_is_read_is_small.Goals as goal

pub returns-clause-limits : goal.returns-clause-limits
returns-clause-limits c = small_read

pub returns-clause-short : goal.returns-clause-short
returns-clause-short c = short_read

pub returns-clause-head : goal.returns-clause-head
returns-clause-head c = short_head_read

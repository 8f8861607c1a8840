use Rattle.blif_models.proofs.WhatIsRead.{small_models, short_models, short_head_models}
use Rattle.blif_models.proofs.laws.what_is_read_is_small.Goals as goal

pub returns-clause-limits : goal.returns-clause-limits
returns-clause-limits c = small_models

pub returns-clause-short : goal.returns-clause-short
returns-clause-short c = short_models

pub returns-clause-head : goal.returns-clause-head
returns-clause-head c = short_head_models

use Rattle.alg_tables.proofs.Taken.{taken_output, taken_shaped, taken_once, taken_reads, taken_unread}
use Rattle.alg_tables.proofs.laws.taken_tables_are_shaped.Goals as goal

pub returns-clause-output : goal.returns-clause-output
returns-clause-output c = taken_output

pub returns-clause-shaped : goal.returns-clause-shaped
returns-clause-shaped c = taken_shaped

pub returns-clause-once : goal.returns-clause-once
returns-clause-once c = taken_once

pub returns-clause-reads : goal.returns-clause-reads
returns-clause-reads c = taken_reads

pub returns-clause-unread : goal.returns-clause-unread
returns-clause-unread c = taken_unread

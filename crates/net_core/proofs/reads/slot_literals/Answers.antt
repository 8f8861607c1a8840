use Rattle.net_core.proofs.Counting.{few_rows_of}
use Rattle.net_core.proofs.reads.slot_literals.Goals as goal

pub table_literals-requires : goal.table_literals-requires
table_literals-requires g c = few_rows_of c.in-Some.entry (rw c.in-Some.is at c.requires)

use Rattle.std.proofs.Common.{arith}
use Rattle.net_core.proofs.Counting.{few_rows_of, one_present}
use Rattle.net_core.proofs.reads.slot_uses.Goals as goal

pub returns-in-Some-clause-bound : goal.returns-in-Some-clause-bound
returns-in-Some-clause-bound g c =
    let few = few_rows_of c.in-Some.entry (rw c.in-Some.is at c.requires) in
    rw c.in-Some.is (one_present c.in-Some.entry _ 8589934592 (omega (arith, few, c.table_uses.ensures.bound)))

use Rattle.net_core.specs.Places.{written_of}
use Rattle.net_core.specs.Tables.{named}
use Rattle.net_work.specs.Placed.{table_at}
use Rattle.net_elim.proofs.Leaving.{inner_gone, root_stays}
use Rattle.net_elim.proofs.cutting.is_inner_at.Goals as goal

pub returns-in-Some-clause-inner : goal.returns-in-Some-clause-inner
unfolding named
returns-in-Some-clause-inner g c =
    inner_gone c.args.work.now.frame (written_of c.in-Some.entry.now) (table_at c.args.work.now.slots c.args.place) c.in-Some.ensures.table c.is_inner.result c.is_inner.ensures

pub returns-in-Some-clause-outer : goal.returns-in-Some-clause-outer
unfolding named
returns-in-Some-clause-outer g c =
    root_stays c.args.work.now.frame (written_of c.in-Some.entry.now) (table_at c.args.work.now.slots c.args.place) c.in-Some.ensures.table c.is_inner.result c.is_inner.ensures

use Rattle.net_elim.proofs.Entries.{fault_named}
use Rattle.net_work.specs.Placed.{table_at}
use Rattle.net_elim.proofs.collapse_step.fault_at.Goals as goal

pub returns-in-Ok : goal.returns-in-Ok
returns-in-Ok g c =
    fault_named c.in-Some.outer.now (table_at c.args.work.now.slots c.args.place) c.in-Some.ensures.table c.in-Ok.name c.in-Ok.ensures c.args.fault c.fault_of.result c.fault_of.ensures

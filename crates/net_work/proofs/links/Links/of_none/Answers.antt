use Rattle.net_work.proofs.Linked.{linked_none}
use Rattle.net_work.proofs.links.Links.of_none.Goals as goal

pub returns : goal.returns
returns c = linked_none (record { readers = c.of_none.result; uses = c.of_none-2.result }) c.of_none.ensures c.of_none-2.ensures

use Rattle.circuit_order.proofs.Orders.{ordered}
use Rattle.circuit_order.proofs.laws.acyclic_tables_are_ordered.Goals as goal

pub returns : goal.returns
returns c = ordered

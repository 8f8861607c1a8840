use Rattle.std.proofs.Common.{ℕ, List, sym, subst}
use Rattle.circuit_order.specs.Order.{IsOrdered}
use Rattle.circuit_order.proofs.Orders.{ordered}
use Rattle.net_func.proofs.building.table_order.Goals as goal

pub returns : goal.returns
returns c = record {
  places = c.in_ok-places.ensures;
  names = subst (λ (names : List (List ℕ)). IsOrdered c.args.tables.now names)
      (sym c.in_ok-names.ensures) (ordered c.args.tables.now c.requires.once c.requires.acyclic);
}

use Rattle.std.proofs.Common.{sym, ap, ◌∙◌, subst}
use Rattle.circuit_model.specs.Soundness.{leaf_names, IsSound}
use Rattle.circuit_model.specs.declared.circuit.Table.{Table}
use Rattle.circuit_model.specs.declared.circuit.Circuit.{Circuit}
use Rattle.std.proofs.Common.{List}
use Rattle.net_func.specs.Numbering.{AreSettled, IsOrderOf}
use Rattle.net_func.proofs.Circuits.{own_settled, free_settled}
use Rattle.net_func.proofs.ordered.in_order.Goals as goal

pub table_order-requires : goal.table_order-requires
table_order-requires c =
    subst AreSettled (sym c.as_slice.ensures) (own_settled c.args.circuit.it c.requires)

pub table_order-requires-2 : goal.table_order-requires-2
table_order-requires-2 c =
    subst AreSettled (sym c.as_slice-2.ensures) (free_settled c.args.circuit.it c.requires)

pub returns-clause-ready : goal.returns-clause-ready
returns-clause-ready c = record {
  sound = subst IsSound (sym c.into_it.ensures) c.requires;
  leaves = c.in_ok-leaves.ensures ∙ ap leaf_names (sym c.into_it.ensures);
  tables = subst (λ (circuit : Circuit). IsOrderOf circuit.tables c.in_ok-tables.tables)
      (sym c.into_it.ensures)
      (subst (λ (tables : List Table). IsOrderOf tables c.in_ok-tables.tables) c.as_slice.ensures
      c.in_ok-tables.ensures);
  dont_care = subst (λ (circuit : Circuit). IsOrderOf circuit.dont_care
      c.in_ok-dont_care.dont_care) (sym c.into_it.ensures)
      (subst (λ (tables : List Table). IsOrderOf tables c.in_ok-dont_care.dont_care)
      c.as_slice-2.ensures c.in_ok-dont_care.ensures);
}

use Rattle.std.proofs.Common.{List, Some, bytes_eq, sym, ap, ◌∙◌, subst}
use Rattle.indexmap.specs.IndexMap.{get}
use Rattle.circuit_model.specs.Values.{driver}
use Rattle.circuit_model.specs.declared.circuit.Table.{Table}
use Rattle.circuit_laws.specs.Edits.{with_tables, with_replaced}
use Rattle.circuit_laws.proofs.Drivers.{driver_name}
use Rattle.circuit_order.specs.Places.{IsIndex}
use Rattle.net_func.proofs.Circuits.{own_settled}
use Rattle.net_func.proofs.Replacing.{replaced_itself}
use Rattle.net_func.proofs.ordered.stands.Goals as goal

pub table_at-old-requires-clause-once : goal.table_at-old-requires-clause-once
table_at-old-requires-clause-once c =
    rw c.as_slice-tables.ensures
    (own_settled c.args.ordered.now.circuit c.requires.ready.sound).once

pub table_at-old-requires-clause-places : goal.table_at-old-requires-clause-places
table_at-old-requires-clause-places c =
    subst (λ (tables : List Table). IsIndex tables (get bytes_eq c.args.ordered.now.tables.places))
    (sym c.as_slice-tables.ensures) c.requires.ready.tables.places

pub table_at-old-requires-clause-driven : goal.table_at-old-requires-clause-driven
table_at-old-requires-clause-driven c = rw c.as_slice-tables.ensures c.requires.driven

pub is_same-requires : goal.is_same-requires
is_same-requires c =
    driver_name c.as_slice-tables.result.now c.args.table.now.output c.table_at-old.result.now
    c.table_at-old.ensures

pub returns : goal.returns
unfolding with_replaced
returns c = λ h.
    ap (λ (tables : List Table). with_tables c.args.ordered.now.circuit tables)
    (replaced_itself c.args.ordered.now.circuit.tables c.args.table.now
    (ap (λ (tables : List Table). driver tables c.args.table.now.output)
    (sym c.as_slice-tables.ensures)
    ∙ c.table_at-old.ensures ∙ ap (λ (t : Table). Some t) (c.is_same.ensures h)))

use Rattle.std.proofs.Common.{ℕ, List, map, bytes_eq, sym, ap, ◌∙◌, subst}
use Rattle.std.proofs.lemmas.Option.{same_Some}
use Rattle.std.proofs.lemmas.Result.{IfOk-weaker}
use Rattle.circuit_model.specs.Values.{driver}
use Rattle.circuit_model.specs.declared.circuit.Table.{Table}
use Rattle.indexmap.specs.IndexMap.{get}
use Rattle.circuit_order.specs.Places.{IsIndex}
use Rattle.net_func.specs.Numbering.{number_in}
use Rattle.net_func.proofs.Circuits.{own_settled}
use Rattle.net_func.proofs.Turning.{reads_known}
use Rattle.net_func.proofs.turn.input_numbers.Goals as goal

pub table_at-table-requires-clause-once : goal.table_at-table-requires-clause-once
table_at-table-requires-clause-once c =
    rw c.as_slice-tables.ensures (own_settled c.args.ordered.now.circuit
    c.requires.ready.sound).once

pub table_at-table-requires-clause-driven : goal.table_at-table-requires-clause-driven
table_at-table-requires-clause-driven c = rw c.as_slice-tables.ensures c.requires.driven

pub table_at-table-requires-clause-places : goal.table_at-table-requires-clause-places
table_at-table-requires-clause-places c =
    subst (λ (tables : List Table). IsIndex tables (get bytes_eq c.args.ordered.now.tables.places))
    (sym c.as_slice-tables.ensures) c.requires.ready.tables.places

pub all_known-requires : goal.all_known-requires
all_known-requires c =
    rw c.as_slice.ensures
    (reads_known c.args.ordered.now.circuit (number_in c.args.numbers.now) c.args.name.now
    c.table_at-table.result.now
    c.requires.ready.sound c.requires.known
    (sym (ap (λ (tables : List Table). driver tables c.args.name.now) c.as_slice-tables.ensures)
    ∙ c.table_at-table.ensures))

pub returns : goal.returns
returns c =
    IfOk-weaker c.all_known.result _ _
    (λ inputs same table at.
    same ∙ ap (λ (names : List (List ℕ)). map (number_in c.args.numbers.now) names)
    c.as_slice.ensures
    ∙ ap (λ (t : Table). map (number_in c.args.numbers.now) t.inputs)
    (same_Some c.table_at-table.result.now table
    (sym c.table_at-table.ensures
    ∙ ap (λ (tables : List Table). driver tables c.args.name.now) c.as_slice-tables.ensures ∙ at)))
    c.all_known.ensures

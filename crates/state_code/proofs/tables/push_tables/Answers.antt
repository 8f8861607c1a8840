use Rattle.std.proofs.Common.{◌++◌, [], ◌∷◌, List, take, append_assoc, sym, ap, ◌∙◌}
use Rattle.std.proofs.lemmas.List.{append-nil}
use Rattle.circuit_model.specs.declared.circuit.Table.{Table}
use Rattle.state_code.specs.Encoded.{table_of, tables_from}
use Rattle.state_code.proofs.Steps.{tables_more, tables_none}
use Rattle.state_code.proofs.tables.push_tables.Goals as goal

pub loop-place-init : goal.loop-place-init
loop-place-init c =
    sym (ap (λ (tables : List Table). c.args.tables.now.items ++ tables)
    (tables_none c.args.coding.style c.args.machine.now c.args.part 0)
    ∙ append-nil c.args.tables.now.items)

pub loop-place-preserved : goal.loop-place-preserved
loop-place-preserved c =
    let more = tables_more c.args.coding.style c.args.machine.now c.args.part c.loop-place.place
    c.args.names.now c.index-names-place.result c.loop-place-test.true c.index-names-place.is in
    let joined = append_assoc c.args.tables.now.items
    (tables_from c.args.coding.style c.args.machine.now c.args.part 0
    (take c.loop-place.place c.args.names.now))
    (table_of c.args.coding.style c.args.machine.now c.args.part c.loop-place.place
    c.index-names-place.result ∷ []) in
    cc (c.in_ok-push.ensures.items, c.in_ok-table_of.ensures)

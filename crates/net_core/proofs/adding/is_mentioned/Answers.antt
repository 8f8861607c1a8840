use Rattle.std.proofs.Common.{sym, ◌∙◌, ◌∷◌}
use Rattle.circuit_model.specs.declared.circuit.Table.{Table}
use Rattle.net_core.proofs.Lookups.{has_flat_at}
use Rattle.net_core.proofs.adding.is_mentioned.Goals as goal

pub returns-then-mentions : goal.returns-then-mentions
returns-then-mentions c =
    sym (has_flat_at (λ (table : Table). table.output ∷ table.inputs) c.args.tables.now c.loop-table.table-index c.table-item.result c.args.name.now c.loop-table-test.true c.table-item.is (sym c.mentions.ensures ∙ c.if-mentions.true))

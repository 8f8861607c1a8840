use Rattle.std.proofs.Common.{sym, ◌∙◌}
use Rattle.circuit_model.specs.declared.circuit.Table.{Table}
use Rattle.net_core.proofs.Lookups.{has_flat_at}
use Rattle.library_trials.proofs.needed.is_table_input.Goals as goal

pub returns-then-is_among : goal.returns-then-is_among
returns-then-is_among c =
    sym (has_flat_at (λ (table : Table). table.inputs) c.args.tables.now c.loop-table.table-index c.table-item.result c.args.name.now c.loop-table-test.true c.table-item.is (sym c.is_among.ensures ∙ c.if-is_among.true))

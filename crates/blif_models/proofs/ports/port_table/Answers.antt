use Rattle.std.proofs.Common.{◌∙◌, ◌+◌, sym, ap, option_copied, arith}
use Rattle.blif_models.specs.PortTables.{next_table}
use Rattle.blif_models.proofs.PortRounds.{first_table, first_is_last, more_table, last_round}
use Rattle.blif_models.proofs.ports.port_table.Goals as goal

pub loop-round-init : goal.loop-round-init
loop-round-init c =
    first_table (option_copied c.args.library) c.args.file.now.models c.as_slice.result.now c.in_ok-table.table.items (c.as_slice.ensures.value ∙ c.new-none.ensures.items) c.in_ok-table.ensures

pub loop-round-preserved : goal.loop-round-preserved
loop-round-preserved c =
    more_table (option_copied c.args.library) c.args.file.now.models (c.loop-round._round + 1) c.loop-round.table.items c.in_ok-next.next.items c.loop-round.invariant
    (c.in_ok-next.ensures ∙ ap (next_table (option_copied c.args.library) c.args.file.now.models) c.as_slice-in-loop-round.ensures.value)

pub returns-then-are_same : goal.returns-then-are_same
returns-then-are_same c =
    last_round (option_copied c.args.library) c.args.file.now.models (c.loop-round._round + 1) 65 c.loop-round.table.items c.in_ok-next.next.items c.loop-round.invariant
    (c.in_ok-next.ensures ∙ ap (next_table (option_copied c.args.library) c.args.file.now.models) c.as_slice-in-loop-round.ensures.value)
    (sym c.as_slice-in-loop-round-2.ensures.value ∙ c.are_same.ensures c.if-are_same.true ∙ c.as_slice-in-loop-round-3.ensures.value)
    (omega (arith, c.loop-round-test.true))

pub returns-then-all_list : goal.returns-then-all_list
returns-then-all_list c =
    first_is_last (option_copied c.args.library) c.args.file.now.models 64 c.in_ok-table.table.items
    (first_table (option_copied c.args.library) c.args.file.now.models c.as_slice.result.now c.in_ok-table.table.items (c.as_slice.ensures.value ∙ c.new-none.ensures.items) c.in_ok-table.ensures)
    (c.all_list.ensures c.if-all_list.true)

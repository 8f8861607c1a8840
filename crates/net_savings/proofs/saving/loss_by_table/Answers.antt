use Rattle.std.proofs.Common.{sym, ◌∙◌}
use Rattle.net_savings.proofs.Tabled.{loss_wide, loss_narrow}
use Rattle.net_savings.proofs.saving.loss_by_table.Goals as goal

pub returns-then-is_wide : goal.returns-then-is_wide
returns-then-is_wide g c =
    let some = rw c.in-Some.is at c.in_ok-divided_table.ensures.some in
    loss_wide c.args.name.now c.args.cover.now c.args.table.now c.in-Some.made some c.requires.free (sym c.is_wide.ensures ∙ c.if-is_wide.true)

pub returns : goal.returns
returns g c =
    let some = rw c.in-Some.is at c.in_ok-divided_table.ensures.some in
    loss_narrow c.args.name.now c.args.cover.now c.args.table.now c.in-Some.made some c.saturating_sub.result c.literal_count.result c.literal_count-else-is_wide.result c.requires.over
    c.rows-of_one_width.ensures.widths c.requires.once c.requires.free (sym c.is_wide.ensures ∙ c.if-is_wide.false) c.literal_count.ensures c.literal_count-else-is_wide.ensures c.saturating_sub.ensures

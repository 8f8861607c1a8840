use Rattle.std.proofs.Common.{◌+◌, ap, ◌∙◌}
use Rattle.net_savings.proofs.ByDivision.{literals_next}
use Rattle.net_savings.proofs.by_division.literals_in.Goals as goal

pub loop-row-preserved : goal.loop-row-preserved
loop-row-preserved g c =
    literals_next g.R.Row.literals c.args.rows.now c.loop-row.row-index c.row-item.result
    c.loop-row.count c.in_ok-count.count c.loop-row-test.true c.row-item.is c.loop-row.invariant
    (c.in_ok-count.ensures ∙ ap (λ n. c.loop-row.count + n) c.literal_count.ensures)

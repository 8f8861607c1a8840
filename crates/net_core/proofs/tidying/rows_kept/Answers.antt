use Rattle.std.proofs.Common.{None, map, get_or}
use Rattle.net_core.proofs.Narrowed.{made_more}
use Rattle.net_core.proofs.tidying.rows_kept.Goals as goal

pub loop-row-preserved : goal.loop-row-preserved
loop-row-preserved g c =
    made_more g.R.Row.literals (λ row. map (λ place. get_or (g.R.Row.literals row) place None) c.args.places.now) c.args.rows.now c.loop-row.made.items _ c.loop-row.row-index _ _
    c.loop-row-test.true c.row-item.is c.in_ok-keep.ensures c.in_ok-push.ensures.items c.loop-row.invariant

use Rattle.std.proofs.Common.{◌≡◌, None, map, take, get_or}
use Rattle.net_core.proofs.tidying.rows_kept.Given as goal

abbrev pub invariant-loop-row : goal.invariant-loop-row
invariant-loop-row g l =
    map g.R.Row.literals l.made.items ≡ map (λ row. map (λ place. get_or (g.R.Row.literals row) place None) l.places) (take l.row-index l.rows)

use Rattle.std.proofs.Common.{◌≡◌, drop}
use Rattle.net_core.proofs.Narrowed.{any_used}
use Rattle.net_core.proofs.tidying.is_place_used.Given as goal

abbrev pub invariant-loop-row : goal.invariant-loop-row
invariant-loop-row g l = any_used g.R.Row.literals (drop l.row-index l.rows) l.place ≡ any_used g.R.Row.literals l.rows l.place

use Rattle.std.proofs.Common.{◌≡◌, ◌++◌, map, drop, Bor}
use Rattle.cover_search.specs.Searches.{meeting_rows}
use Rattle.cover_search.proofs.narrow.rows_within.Given as goal

abbrev pub invariant-loop-row : goal.invariant-loop-row
invariant-loop-row g l = map (λ (x : Bor g.row.R.Denot). g.R.Row.literals x.now) l.made.items ++ meeting_rows (g.R.Row.literals l.given) (map g.R.Row.literals (drop l.row-index l.rows)) ≡ meeting_rows (g.R.Row.literals l.given) (map g.R.Row.literals l.rows)

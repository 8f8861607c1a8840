use Rattle.std.proofs.Common.{◌≡◌, map, take, Bor}
use Rattle.cover_search.proofs.narrow.all_rows.Given as goal

abbrev pub invariant-loop-row : goal.invariant-loop-row
invariant-loop-row g l = map (λ (x : Bor g.row.R.Denot). g.R.Row.literals x.now) l.made.items ≡ map (λ (x : Bor g.row.R.Denot). g.R.Row.literals x.now) (take l.row-index l.rows)

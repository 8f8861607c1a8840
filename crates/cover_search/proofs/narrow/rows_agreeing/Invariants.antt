use Rattle.std.proofs.Common.{◌≡◌, ◌++◌, map, drop, Bor}
use Rattle.cube_cover.specs.Covers.{agreeing_rows}
use Rattle.cover_search.proofs.narrow.rows_agreeing.Given as goal

abbrev pub invariant-loop-row : goal.invariant-loop-row
invariant-loop-row g l = map (λ (x : Bor g.row.R.Denot). g.R.Row.literals x.now) l.made.items ++ agreeing_rows l.place l.bit (map (λ (x : Bor g.row.R.Denot). g.R.Row.literals x.now) (drop l.row-index l.rows)) ≡ agreeing_rows l.place l.bit (map (λ (x : Bor g.row.R.Denot). g.R.Row.literals x.now) l.rows)

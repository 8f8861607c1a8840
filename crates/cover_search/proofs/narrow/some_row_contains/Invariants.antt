use Rattle.std.proofs.Common.{◌≡◌, map, drop, Bor}
use Rattle.cube_cover.specs.Literals.{some_contains}
use Rattle.cover_search.proofs.narrow.some_row_contains.Given as goal

abbrev pub invariant-loop-row : goal.invariant-loop-row
invariant-loop-row g l = some_contains (g.R.Row.literals l.given) (map (λ (x : Bor g.row.R.Denot). g.R.Row.literals x.now) (drop l.row-index l.rows)) ≡ some_contains (g.R.Row.literals l.given) (map (λ (x : Bor g.row.R.Denot). g.R.Row.literals x.now) l.rows)

use Rattle.std.proofs.Common.{◌≡◌, map, drop}
use Rattle.std.proofs.Common.{Bor}
use Rattle.cube_cover.specs.Literals.{some_dashes}
use Rattle.cover_ops.proofs.list.some_free.Given as goal

abbrev pub invariant-loop-row : goal.invariant-loop-row
invariant-loop-row g l = some_dashes (map (drop l.place) (map (λ (x : Bor g.row.R.Denot). g.R.Row.literals x.now) (drop l.row-index l.rows))) ≡ some_dashes (map (drop l.place) (map (λ (x : Bor g.row.R.Denot). g.R.Row.literals x.now) l.rows))

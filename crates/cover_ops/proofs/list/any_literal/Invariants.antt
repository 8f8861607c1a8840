use Rattle.std.proofs.Common.{◌≡◌, map, drop}
use Rattle.std.proofs.Common.{Bor}
use Rattle.cube_cover.specs.Literals.{some_literal}
use Rattle.cover_ops.proofs.list.any_literal.Given as goal

abbrev pub invariant-loop-row : goal.invariant-loop-row
invariant-loop-row g l = some_literal l.place (map (λ (x : Bor g.row.R.Denot). g.R.Row.literals x.now) (drop l.row-index l.rows)) ≡ some_literal l.place (map (λ (x : Bor g.row.R.Denot). g.R.Row.literals x.now) l.rows)

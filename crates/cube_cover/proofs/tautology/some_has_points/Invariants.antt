use Rattle.std.proofs.Common.{◌≡◌, map, drop}
use Rattle.cube_cover.specs.Covers.{picked_rows}
use Rattle.cube_cover.specs.Literals.{some_contains}
use Rattle.cube_cover.proofs.tautology.some_has_points.Given as goal

abbrev pub invariant-loop-number : goal.invariant-loop-number
invariant-loop-number g l = some_contains (g.R.Row.literals l.given) (picked_rows (map g.R.Row.literals l.rows) (drop l.number-index l.numbers)) ≡ some_contains (g.R.Row.literals l.given) (picked_rows (map g.R.Row.literals l.rows) l.numbers)

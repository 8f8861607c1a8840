use Rattle.std.proofs.Common.{◌≡◌, drop}
use Rattle.cube_cover.specs.Literals.{no_dash}
use Rattle.cube_cover.proofs.row.first_dash.Given as goal

abbrev pub invariant-loop-place : goal.invariant-loop-place
invariant-loop-place g l = no_dash (drop l.place (g.R.Row.literals l.row)) ≡ no_dash (g.R.Row.literals l.row)

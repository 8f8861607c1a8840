use Rattle.std.proofs.Common.{◌≡◌, drop, map}
use Rattle.std.specs.List.{position_from}
use Rattle.alg_div.specs.Cubes.{row_eq}
use Rattle.alg_div.proofs.steps.first_equal.Given as goal

abbrev pub invariant-loop-number : goal.invariant-loop-number
invariant-loop-number g l =
    position_from (row_eq (g.R.Row.literals l.row)) l.number (map g.R.Row.literals (drop l.number l.rows))
    ≡ position_from (row_eq (g.R.Row.literals l.row)) 0 (map g.R.Row.literals l.rows)

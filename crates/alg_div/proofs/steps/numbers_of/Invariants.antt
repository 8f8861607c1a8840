use Rattle.std.proofs.Common.{◌≡◌, Bool, Option, List, take, map}
use Rattle.std.specs.List.{position_from}
use Rattle.alg_div.specs.Cubes.{row_eq}
use Rattle.alg_div.specs.Steps.{number_in}
use Rattle.alg_div.proofs.steps.numbers_of.Given as goal

abbrev pub invariant-loop-number : goal.invariant-loop-number
invariant-loop-number g l = (row : List (Option Bool))
    → number_in l.index row ≡ position_from (row_eq row) 0 (map g.R.Row.literals (take l.number l.rows))

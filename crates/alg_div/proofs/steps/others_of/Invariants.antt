use Rattle.std.proofs.Common.{◌≡◌, ◌++◌, drop, map}
use Rattle.alg_div.specs.Quotient.{others}
use Rattle.alg_div.proofs.steps.others_of.Given as goal

abbrev pub invariant-loop-row : goal.invariant-loop-row
invariant-loop-row g l =
    map g.R.Row.literals l.made.items ++ others (map g.R.Row.literals (drop l.row-index l.rows)) (map g.R.Row.literals l.taken)
    ≡ others (map g.R.Row.literals l.rows) (map g.R.Row.literals l.taken)

use Rattle.std.proofs.Common.{◌≡◌, map, take}
use Rattle.alg_div.specs.Steps.{literals_in}
use Rattle.alg_div.proofs.literals.rows_of.Given as goal

abbrev pub invariant-loop-literals : goal.invariant-loop-literals
invariant-loop-literals g l = map g.R.Row.literals l.made.items ≡ literals_in (take l.literals-index l.rows)

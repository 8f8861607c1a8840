use Rattle.std.proofs.Common.{◌≡◌, take}
use Rattle.alg_div.proofs.literals.literals_of.Given as goal

abbrev pub invariant-loop-place : goal.invariant-loop-place
invariant-loop-place g l = l.literals.items ≡ take l.place (g.R.Row.literals l.row)

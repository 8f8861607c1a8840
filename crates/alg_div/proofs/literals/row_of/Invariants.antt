use Rattle.std.proofs.Common.{◌≡◌, None, ◌++◌, take, drop, replicate, length}
use Rattle.alg_div.proofs.literals.row_of.Given as goal

abbrev pub invariant-loop-place : goal.invariant-loop-place
invariant-loop-place g l = g.R.Row.literals l.row ≡ take l.place l.literals ++ drop l.place (replicate (length l.literals) None)

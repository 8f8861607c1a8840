use Rattle.std.proofs.Common.{◌≡◌, ◌++◌, map, take}
use Rattle.alg_factor.proofs.expansion.followed_by.Given as goal

abbrev pub invariant-loop-row : goal.invariant-loop-row
invariant-loop-row g l = map g.R.Row.literals l.made.items ≡ map g.R.Row.literals l.fn.first.items ++ map g.R.Row.literals (take l.row-index l.others)

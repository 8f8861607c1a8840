use Rattle.std.proofs.Common.{◌-◌, length}
use Rattle.cover_search.proofs.weights.weigh_row.Given as goal

abbrev pub invariant-loop-place : goal.invariant-loop-place
invariant-loop-place g l = Unit {0}

abbrev pub decreases-loop-place : goal.decreases-loop-place
decreases-loop-place g l = length (g.R.Row.literals l.row) - l.from

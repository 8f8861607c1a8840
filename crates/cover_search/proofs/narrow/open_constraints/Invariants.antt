use Rattle.std.proofs.Common.{take}
use Rattle.cover_search.specs.Searches.{IsLeft}
use Rattle.cover_search.proofs.narrow.open_constraints.Given as goal

abbrev pub invariant-loop-constraint : goal.invariant-loop-constraint
invariant-loop-constraint g l = IsLeft (g.R.Row.literals l.given) (take l.constraint-index l.constraints) l.left.items

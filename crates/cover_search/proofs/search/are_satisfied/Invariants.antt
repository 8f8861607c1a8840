use Rattle.std.proofs.Common.{◌≡◌, drop}
use Rattle.std.specs.List.{list_all}
use Rattle.cover_search.specs.Searches.{is_satisfied_at}
use Rattle.cover_search.proofs.search.are_satisfied.Given as goal

abbrev pub invariant-loop-constraint : goal.invariant-loop-constraint
invariant-loop-constraint g l = list_all (is_satisfied_at (g.R.Row.literals l.given)) (drop l.constraint-index l.constraints) ≡ list_all (is_satisfied_at (g.R.Row.literals l.given)) l.constraints

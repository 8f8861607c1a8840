use Rattle.cover_search.specs.Searches.{IsPart}
use Rattle.cover_search.proofs.search.likely_row.Given as goal

abbrev pub invariant-loop-place : goal.invariant-loop-place
invariant-loop-place g l = IsPart (g.R.Row.literals l.given) (g.R.Row.literals l.made)

abbrev pub invariant-loop-place-2 : goal.invariant-loop-place-2
invariant-loop-place-2 g l = IsPart (g.R.Row.literals l.given) (g.R.Row.literals l.made)

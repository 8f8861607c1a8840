use Rattle.cube_cover.proofs.Splits.{dash_count}
use Rattle.cover_search.proofs.search.+is_satisfiable_below.Given as goal

abbrev pub decreases-is_satisfiable_below : goal.decreases-is_satisfiable_below
decreases-is_satisfiable_below g l = dash_count (g.R.Row.literals l.given.now)

use Rattle.cube_cover.proofs.Splits.{dash_count}
use Rattle.cube_cover.proofs.tautology.+is_covered.Given as goal

abbrev pub decreases-is_covered : goal.decreases-is_covered
decreases-is_covered g l = dash_count (g.R.Row.literals l.given.now)

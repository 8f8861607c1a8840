use Rattle.std.proofs.Common.{map}
use Rattle.cube_cover.specs.Covers.{picked_rows}
use Rattle.cube_cover.specs.Reductions.{IsUnateReduction}
use Rattle.cube_cover.proofs.unate.reduce.Given as goal

abbrev pub invariant-loop-round : goal.invariant-loop-round
invariant-loop-round g l = IsUnateReduction (g.R.Row.literals l.given) (picked_rows (map g.R.Row.literals l.rows) l.numbers) (picked_rows (map g.R.Row.literals l.rows) l.kept.items)

use Rattle.std.proofs.Common.{map}
use Rattle.cube_cover.specs.Covers.{picked_rows}
use Rattle.cube_cover.specs.Reductions.{IsUnateReduction}
use Rattle.cube_cover.proofs.unate.reduce_once.Given as goal

abbrev pub invariant-loop-place : goal.invariant-loop-place
invariant-loop-place g l = IsUnateReduction (g.R.Row.literals l.given) (picked_rows (map g.R.Row.literals l.rows) l.fn.numbers.items) (picked_rows (map g.R.Row.literals l.rows) l.kept.items)

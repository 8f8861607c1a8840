use Rattle.std.proofs.Common.{◌≡◌, ◌++◌, map, drop}
use Rattle.cube_cover.specs.Covers.{picked_rows}
use Rattle.cube_cover.specs.Literals.{dashed_rows}
use Rattle.cube_cover.proofs.picks.pick_dashed.Given as goal

abbrev pub invariant-loop-number : goal.invariant-loop-number
invariant-loop-number g l = picked_rows (map g.R.Row.literals l.rows) l.made.items ++ dashed_rows l.place (picked_rows (map g.R.Row.literals l.rows) (drop l.number-index l.numbers)) ≡ dashed_rows l.place (picked_rows (map g.R.Row.literals l.rows) l.numbers)

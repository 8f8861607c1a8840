use Rattle.std.proofs.Common.{◌≡◌, map, take}
use Rattle.cube_cover.specs.Covers.{picked_rows}
use Rattle.cube_cover.proofs.picks.all_numbers.Given as goal

abbrev pub invariant-loop-number : goal.invariant-loop-number
invariant-loop-number g l = picked_rows (map g.R.Row.literals l.rows) l.made.items ≡ take l.number (map g.R.Row.literals l.rows)

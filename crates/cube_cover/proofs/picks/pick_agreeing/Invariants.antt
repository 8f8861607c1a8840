use Rattle.std.proofs.Common.{◌≡◌, ◌++◌, map, drop}
use Rattle.cube_cover.specs.Covers.{picked_rows}
use Rattle.cube_cover.specs.Covers.{agreeing_rows}
use Rattle.cube_cover.proofs.picks.pick_agreeing.Given as goal

abbrev pub invariant-loop-number : goal.invariant-loop-number
invariant-loop-number g l = picked_rows (map g.R.Row.literals l.rows) l.made.items ++ agreeing_rows l.place l.bit (picked_rows (map g.R.Row.literals l.rows) (drop l.number-index l.numbers)) ≡ agreeing_rows l.place l.bit (picked_rows (map g.R.Row.literals l.rows) l.numbers)

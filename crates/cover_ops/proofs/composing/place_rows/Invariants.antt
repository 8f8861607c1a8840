use Rattle.std.proofs.Common.{◌≡◌, map, take}
use Rattle.cover_ops.specs.Composed.{placed_rows}
use Rattle.cover_ops.proofs.composing.place_rows.Given as goal

abbrev pub invariant-loop-row : goal.invariant-loop-row
invariant-loop-row g l = map g.R.Row.literals l.made.items ≡ placed_rows l.width l.places (map g.R.Row.literals (take l.row-index l.rows))

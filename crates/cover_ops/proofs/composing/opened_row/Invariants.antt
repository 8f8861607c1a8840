use Rattle.std.proofs.Common.{◌≡◌, length, take}
use Rattle.cover_ops.specs.Composed.{outer_row}
use Rattle.cover_ops.proofs.composing.opened_row.Given as goal

abbrev pub invariant-loop-place : goal.invariant-loop-place
invariant-loop-place g l = (length (g.R.Row.literals l.made) ≡ l.width) × (take l.place (g.R.Row.literals l.made) ≡ take l.place (outer_row l.x l.added (g.R.Row.literals l.row)))

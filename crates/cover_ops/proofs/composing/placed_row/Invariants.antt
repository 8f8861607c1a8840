use Rattle.std.proofs.Common.{◌≡◌, None, length, drop, replicate}
use Rattle.cover_ops.specs.Composed.{inner_row}
use Rattle.cover_ops.proofs.composing.placed_row.Given as goal

abbrev pub invariant-loop-i : goal.invariant-loop-i
invariant-loop-i g l = (inner_row (g.R.Row.literals l.made) (drop l.i l.places) (drop l.i (g.R.Row.literals l.row)) ≡ inner_row (replicate l.width None) l.places (g.R.Row.literals l.row)) × (length (g.R.Row.literals l.made) ≡ l.width)

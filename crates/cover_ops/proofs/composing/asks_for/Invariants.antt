use Rattle.std.proofs.Common.{◌≡◌, map, drop}
use Rattle.cover_ops.specs.Composed.{asks}
use Rattle.cover_ops.proofs.composing.asks_for.Given as goal

abbrev pub invariant-loop-row : goal.invariant-loop-row
invariant-loop-row g l = asks l.x l.bit (map g.R.Row.literals (drop l.row-index l.rows)) ≡ asks l.x l.bit (map g.R.Row.literals l.rows)

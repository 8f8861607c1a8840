use Rattle.std.proofs.Common.{◌≡◌, ◌≤◌, ◌++◌, length, map, drop}
use Rattle.cover_ops.specs.Composed.{composed_rows}
use Rattle.cover_ops.proofs.composing.all_composed.Given as goal

abbrev pub invariant-loop-row : goal.invariant-loop-row
invariant-loop-row g l =
    (map g.R.Row.literals l.made.items ++ composed_rows l.x l.added (map g.R.Row.literals l.on) (map g.R.Row.literals l.off) (map g.R.Row.literals (drop l.row-index l.rows))
    ≡ composed_rows l.x l.added (map g.R.Row.literals l.on) (map g.R.Row.literals l.off) (map g.R.Row.literals l.rows))
    × (length l.made.items ≤ l.limit)

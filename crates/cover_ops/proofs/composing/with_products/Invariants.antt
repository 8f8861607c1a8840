use Rattle.std.proofs.Common.{◌≡◌, ◌≤◌, ◌++◌, length, map, drop}
use Rattle.cover_ops.specs.Composed.{row_products}
use Rattle.cover_ops.proofs.composing.with_products.Given as goal

abbrev pub invariant-loop-other : goal.invariant-loop-other
invariant-loop-other g l = (map g.R.Row.literals l.made.items ++ row_products (g.R.Row.literals l.row) (map g.R.Row.literals (drop l.other-index l.others)) ≡ map g.R.Row.literals l.fn.list.items ++ row_products (g.R.Row.literals l.row) (map g.R.Row.literals l.others)) × (length l.made.items ≤ l.limit)

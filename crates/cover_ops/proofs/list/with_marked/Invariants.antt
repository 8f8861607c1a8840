use Rattle.std.proofs.Common.{◌≡◌, ◌++◌, map}
use Rattle.cover_ops.specs.Halves.{marked_rows}
use Rattle.cover_ops.proofs.list.with_marked.Given as goal

abbrev pub invariant-loop-row : goal.invariant-loop-row
invariant-loop-row g l = map g.R.Row.literals l.made.items ≡ map g.R.Row.literals l.fn.list.items ++ marked_rows l.fn.place l.fn.bit (map g.R.Row.literals l.yielded)

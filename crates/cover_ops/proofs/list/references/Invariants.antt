use Rattle.std.proofs.Common.{◌≡◌, map, take}
use Rattle.std.proofs.Common.{Bor}
use Rattle.cover_ops.proofs.list.references.Given as goal

abbrev pub invariant-loop-row : goal.invariant-loop-row
invariant-loop-row g l = map (λ (x : Bor g.row.R.Denot). g.R.Row.literals x.now) l.made.items ≡ map g.R.Row.literals (take l.row-index l.rows)

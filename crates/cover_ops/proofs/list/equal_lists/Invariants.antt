use Rattle.std.proofs.Common.{◌≡◌, length, map, take}
use Rattle.cover_ops.proofs.list.equal_lists.Given as goal

abbrev pub invariant-loop-i : goal.invariant-loop-i
invariant-loop-i g l = (length l.low ≡ length l.high) × (map g.R.Row.literals (take l.i l.low) ≡ map g.R.Row.literals (take l.i l.high))

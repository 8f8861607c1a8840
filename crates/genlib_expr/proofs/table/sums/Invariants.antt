use Rattle.std.proofs.Common.{◌≡◌, ◌++◌, drop}
use Rattle.genlib_expr.specs.Tables.{sums}
use Rattle.genlib_expr.proofs.table.sums.Given as goal

abbrev pub invariant-loop-i : goal.invariant-loop-i
invariant-loop-i l = l.made.items ++ sums (drop l.i l.left) (drop l.i l.right) ≡ sums l.left l.right

use Rattle.std.proofs.Common.{◌≡◌, ◌++◌, drop}
use Rattle.genlib_expr.specs.Tables.{products}
use Rattle.genlib_expr.proofs.table.products.Given as goal

abbrev pub invariant-loop-i : goal.invariant-loop-i
invariant-loop-i l = l.made.items ++ products (drop l.i l.left) (drop l.i l.right) ≡ products l.left l.right

use Rattle.std.proofs.Common.{◌≡◌, map, not, take}
use Rattle.genlib_expr.proofs.table.complements.Given as goal

abbrev pub invariant-loop-bit : goal.invariant-loop-bit
invariant-loop-bit l = l.made.items ≡ map not (take l.bit-index l.bits)

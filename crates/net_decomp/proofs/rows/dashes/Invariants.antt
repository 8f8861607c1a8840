use Rattle.std.proofs.Common.{◌≡◌, None, replicate}
use Rattle.net_decomp.proofs.rows.dashes.Given as goal

abbrev pub invariant-loop-filled : goal.invariant-loop-filled
invariant-loop-filled l = l.made.items ≡ replicate l._filled None

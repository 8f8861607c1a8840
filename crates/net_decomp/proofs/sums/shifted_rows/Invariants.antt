use Rattle.std.proofs.Common.{◌≡◌, map, take}
use Rattle.net_decomp.specs.Sums.{shifted_rows}
use Rattle.net_decomp.proofs.sums.shifted_rows.Given as goal

abbrev pub invariant-loop-literal : goal.invariant-loop-literal
invariant-loop-literal g l = map g.R.Row.literals l.made.items ≡ shifted_rows l.width l.from (take l.literal-index l.literals)

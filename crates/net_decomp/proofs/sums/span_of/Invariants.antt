use Rattle.std.proofs.Common.{◌≤◌, take}
use Rattle.std.specs.List.{AllByRecursion}
use Rattle.net_decomp.specs.Sums.{IsBetween}
use Rattle.net_decomp.proofs.sums.span_of.Given as goal

abbrev pub invariant-loop-literal : goal.invariant-loop-literal
invariant-loop-literal l = record { within : AllByRecursion (IsBetween l.from l.to) (take l.literal-index l.literals); fits : l.to ≤ l.width }

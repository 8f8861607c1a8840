use Rattle.std.proofs.Common.{◌≡◌, ◌++◌, drop}
use Rattle.net_candidates.specs.Candidates.{own}
use Rattle.net_candidates.proofs.parts.own_literals.Given as goal

abbrev pub invariant-loop-literal : goal.invariant-loop-literal
invariant-loop-literal l = l.literals.items ++ own (drop l.literal-index l.one) l.other ≡ own l.one l.other

use Rattle.std.proofs.Common.{◌≡◌, ◌++◌, drop}
use Rattle.net_candidates.specs.Candidates.{shared}
use Rattle.net_candidates.proofs.parts.shared_literals.Given as goal

abbrev pub invariant-loop-literal : goal.invariant-loop-literal
invariant-loop-literal l = l.literals.items ++ shared (drop l.literal-index l.one) l.other ≡ shared l.one l.other

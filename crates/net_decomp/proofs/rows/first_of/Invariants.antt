use Rattle.std.proofs.Common.{◌≡◌, ◌++◌, drop}
use Rattle.net_decomp.specs.Rules.{first_literals}
use Rattle.net_decomp.proofs.rows.first_of.Given as goal

abbrev pub invariant-loop-literal : goal.invariant-loop-literal
invariant-loop-literal l = l.made.items ++ first_literals l.left (drop l.literal-index l.literals) ≡ first_literals l.most l.literals

use Rattle.std.proofs.Common.{◌≡◌, ◌++◌, drop}
use Rattle.net_decomp.specs.Rules.{later_literals}
use Rattle.net_decomp.proofs.rows.later_of.Given as goal

abbrev pub invariant-loop-literal : goal.invariant-loop-literal
invariant-loop-literal l = l.made.items ++ later_literals l.left (drop l.literal-index l.literals) ≡ later_literals l.most l.literals

use Rattle.std.proofs.Common.{◌≤◌}
use Rattle.alg_factor.specs.declared.form.Tree.{size-Tree}
use Rattle.alg_factor.proofs.form.Tree.+drop.Given as goal

abbrev pub invariant-loop-self : goal.invariant-loop-self
invariant-loop-self g l = size-Tree _ l.self ≤ size-Tree _ l.initial.self

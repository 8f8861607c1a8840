use Rattle.std.proofs.Common.{◌≡◌, ◌+◌}
use Rattle.alg_factor.specs.Forms.{form_literals}
use Rattle.alg_factor.specs.Shapes.{shape}
use Rattle.alg_factor.proofs.literals.+tree_literals.Given as goal

abbrev pub invariant-loop-here : goal.invariant-loop-here
invariant-loop-here g l = l.count + form_literals (shape g.R.Row.literals l.here) ≡ form_literals (shape g.R.Row.literals l.tree)

abbrev pub decreases-loop-here : goal.decreases-loop-here
decreases-loop-here g l = form_literals (shape g.R.Row.literals l.here)

abbrev pub decreases-tree_literals : goal.decreases-tree_literals
decreases-tree_literals g l = form_literals (shape g.R.Row.literals l.tree.now)

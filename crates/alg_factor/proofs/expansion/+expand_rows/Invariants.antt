use Rattle.std.proofs.Common.{◌≡◌, ◌++◌, ◌≤◌, map}
use Rattle.alg_factor.specs.Forms.{form_literals, expansion_of, IsOver}
use Rattle.alg_factor.specs.Shapes.{shape}
use Rattle.alg_factor.proofs.expansion.+expand_rows.Given as goal

abbrev pub invariant-loop-here : goal.invariant-loop-here
invariant-loop-here g l = record {
  over : IsOver l.width (shape g.R.Row.literals l.here);
  smaller : form_literals (shape g.R.Row.literals l.here) ≤ form_literals (shape g.R.Row.literals l.tree);
  rows : map g.R.Row.literals l.made.items ++ expansion_of (shape g.R.Row.literals l.here) ≡ expansion_of (shape g.R.Row.literals l.tree);
}

abbrev pub decreases-loop-here : goal.decreases-loop-here
decreases-loop-here g l = form_literals (shape g.R.Row.literals l.here)

abbrev pub decreases-expand_rows : goal.decreases-expand_rows
decreases-expand_rows g l = form_literals (shape g.R.Row.literals l.tree.now)

use Rattle.std.proofs.Common.{◌≡◌, ◌≤◌, ◌++◌, length, codes}
use Rattle.alg_factor.specs.Forms.{form_literals, IsOver}
use Rattle.alg_factor.specs.Shapes.{shape}
use Rattle.alg_factor.specs.Texts.{summand_texts, form_text}
use Rattle.alg_factor.specs.Writing.{left_text}
use Rattle.alg_factor.proofs.text.+put_tree.Given as goal

abbrev pub invariant-loop-here : goal.invariant-loop-here
invariant-loop-here g l = record {
  over : IsOver (length l.names) (shape g.R.Row.literals l.here);
  smaller : form_literals (shape g.R.Row.literals l.here) ≤ form_literals (shape g.R.Row.literals l.tree);
  written : l.text.items ++ left_text l.first (codes "0") (codes " + ") (summand_texts l.names (shape g.R.Row.literals l.here)) ≡ l.fn.text.items ++ form_text l.names (shape g.R.Row.literals l.tree);
}

abbrev pub decreases-loop-here : goal.decreases-loop-here
decreases-loop-here g l = form_literals (shape g.R.Row.literals l.here)

abbrev pub decreases-put_tree : goal.decreases-put_tree
decreases-put_tree g l = form_literals (shape g.R.Row.literals l.tree.now)

use Rattle.std.proofs.Common.{◌≤◌, map}
use Rattle.cube_cover.specs.Literals.{cover_literals}
use Rattle.sis_base.specs.Rows.{HasWidth}
use Rattle.alg_factor.specs.Forms.{Form, IsFactored}
use Rattle.alg_factor.specs.Chains.{chain_form}
use Rattle.alg_factor.proofs.factoring.+factored_rows.Given as goal

abbrev pub invariant-loop-best : goal.invariant-loop-best
invariant-loop-best g l = record {
  widths : HasWidth l.width (map g.R.Row.literals l.rest.items);
  fewer : cover_literals (map g.R.Row.literals l.rest.items) ≤ cover_literals (map g.R.Row.literals l.fn.rows.items);
  form : (form : Form) → IsFactored (map g.R.Row.literals l.rest.items) form → IsFactored (map g.R.Row.literals l.fn.rows.items) (chain_form g.R.Row.literals l.products.items form);
}

abbrev pub decreases-loop-best : goal.decreases-loop-best
decreases-loop-best g l = cover_literals (map g.R.Row.literals l.rest.items)

abbrev pub decreases-factored_rows : goal.decreases-factored_rows
decreases-factored_rows g l = cover_literals (map g.R.Row.literals l.rows.items)

use Rattle.std.proofs.Common.{◌∙◌, sym}
use Rattle.net_core.proofs.Narrowed.{used_here, used_later, used_nowhere}
use Rattle.net_core.proofs.tidying.is_place_used.Goals as goal

pub loop-row-preserved : goal.loop-row-preserved
loop-row-preserved g c = used_later g.R.Row.literals c.args.rows.now c.loop-row.row-index c.args.place _ c.loop-row-test.true c.row-item.is (sym c.if-has_literal.false ∙ c.has_literal.ensures) ∙ c.loop-row.invariant

pub returns-then-has_literal : goal.returns-then-has_literal
returns-then-has_literal g c = used_here g.R.Row.literals c.args.rows.now c.loop-row.row-index c.args.place _ c.loop-row-test.true c.row-item.is (sym c.if-has_literal.true ∙ c.has_literal.ensures) ∙ c.loop-row.invariant

pub returns : goal.returns
returns g c = used_nowhere g.R.Row.literals c.args.rows.now c.loop-row.row-index c.args.place c.loop-row-test.false ∙ c.loop-row.invariant

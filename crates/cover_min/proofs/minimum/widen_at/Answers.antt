use Rattle.std.proofs.Common.{sym, ◌∙◌}
use Rattle.cover_min.proofs.Widened.{widened_dash, widened_goes, widened_stays}
use Rattle.cover_min.proofs.minimum.widen_at.Goals as goal

pub returns-then-is_none-clause-widened : goal.returns-then-is_none-clause-widened
returns-then-is_none-clause-widened g c =
    widened_dash (g.O.Oracle.meaning c.args.oracle.now).off (g.R.Row.literals c.args.row.now) c.args.place c.at-literal.result c.is_none.result c.at-literal.ensures c.is_none.ensures c.if-is_none.true

pub returns-then-branch-clause-widened : goal.returns-then-branch-clause-widened
returns-then-branch-clause-widened g c =
    widened_stays (g.O.Oracle.meaning c.args.oracle.now).off (g.R.Row.literals c.args.row.now) (g.R.Row.literals c.set.new.self) (g.R.Row.literals c.set-then-branch.new.self) c.args.place c.at-literal.result
    c.set.ensures c.at-literal.ensures (sym c.in_ok-meets_off.ensures.answer ∙ c.if-branch.true) c.set-then-branch.ensures

pub returns-else-branch-clause-widened : goal.returns-else-branch-clause-widened
returns-else-branch-clause-widened g c =
    widened_goes (g.O.Oracle.meaning c.args.oracle.now).off (g.R.Row.literals c.args.row.now) (g.R.Row.literals c.set.new.self) c.args.place
    c.set.ensures (sym c.in_ok-meets_off.ensures.answer ∙ c.if-branch.false)

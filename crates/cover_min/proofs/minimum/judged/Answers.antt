use Rattle.std.proofs.Common.{option_map}
use Rattle.cover_min.proofs.Trimming.{holds_stays, holds_goes}
use Rattle.cover_min.proofs.minimum.judged.Goals as goal

pub returns-in_ok-put_in-clause-held : goal.returns-in_ok-put_in-clause-held
returns-in_ok-put_in-clause-held g c =
    holds_stays (g.O.Oracle.meaning c.args.oracle.now).on c.args.others.rows c.args.place (g.R.Row.literals c.args.row) c.in_ok-put_in.field-0.others c.in_ok-put_in.field-0.place
    (option_map g.R.Row.literals c.in_ok-put_in.field-0.hand) c.in_ok-has_own_point.field-0 c.in_ok-has_own_point.ensures.answer c.if-branch.true c.in_ok-put_in.ensures.held

pub returns-else-branch-clause-held : goal.returns-else-branch-clause-held
returns-else-branch-clause-held g c =
    holds_goes (g.O.Oracle.meaning c.args.oracle.now).on c.args.others.rows c.args.place (g.R.Row.literals c.args.row) c.taken_out.result.others c.taken_out.result.place
    (option_map g.R.Row.literals c.taken_out.result.hand) c.in_ok-has_own_point.field-0 c.in_ok-has_own_point.ensures.answer c.if-branch.false c.taken_out.ensures.held

use Rattle.cover_search.proofs.Tying.{one_before, off_wide, off_answer}
use Rattle.cover_search.proofs.tied.has_off_point.Goals as goal

pub is_satisfiable-requires : goal.is_satisfiable-requires
is_satisfiable-requires g c =
    off_wide (g.R.Row.literals c.args.given.now) c.args.cover.now.rows _ c.as_slice.result.now
    (one_before _ _ _ _ _ _ _ c.new-constraints.ensures.items c.in_ok-push.ensures.items c.in_ok-add_ties.ensures.constraints c.as_slice.ensures.value c.in_ok-no_row.ensures.constraint) c.in_ok-no_row.ensures.wide c.in_ok-add_ties.ensures.wide

pub returns : goal.returns
returns g c =
    off_answer (g.R.Row.literals c.args.given.now) c.args.cover.now.rows _ c.as_slice.result.now c.in_ok-answer.answer
    (one_before _ _ _ _ _ _ _ c.new-constraints.ensures.items c.in_ok-push.ensures.items c.in_ok-add_ties.ensures.constraints c.as_slice.ensures.value c.in_ok-no_row.ensures.constraint) c.in_ok-no_row.ensures.wide c.in_ok-add_ties.ensures.wide c.in_ok-answer.ensures

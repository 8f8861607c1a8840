use Rattle.cover_search.proofs.Tying.{two_before, on_wide, on_answer}
use Rattle.cover_search.proofs.tied.has_on_point.Goals as goal

pub is_satisfiable-requires : goal.is_satisfiable-requires
is_satisfiable-requires g c =
    on_wide (g.R.Row.literals c.args.given.now) c.args.cover.now.rows c.args.others.now.rows _ c.as_slice.result.now
    (two_before _ _ _ _ _ _ _ _ _ _ c.new-constraints.ensures.items c.in_ok-push.ensures.items c.in_ok-push-2.ensures.items c.in_ok-add_ties.ensures.constraints c.as_slice.ensures.value c.in_ok-no_other.ensures.constraint c.in_ok-some_row.ensures.constraint) c.in_ok-some_row.ensures.wide
    c.in_ok-no_other.ensures.wide c.in_ok-add_ties.ensures.wide

pub returns : goal.returns
returns g c =
    on_answer (g.R.Row.literals c.args.given.now) c.args.cover.now.rows c.args.others.now.rows _ c.as_slice.result.now c.in_ok-answer.answer
    (two_before _ _ _ _ _ _ _ _ _ _ c.new-constraints.ensures.items c.in_ok-push.ensures.items c.in_ok-push-2.ensures.items c.in_ok-add_ties.ensures.constraints c.as_slice.ensures.value c.in_ok-no_other.ensures.constraint c.in_ok-some_row.ensures.constraint) c.in_ok-some_row.ensures.wide
    c.in_ok-no_other.ensures.wide c.in_ok-add_ties.ensures.wide c.in_ok-answer.ensures

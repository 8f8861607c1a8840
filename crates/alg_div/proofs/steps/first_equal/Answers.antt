use Rattle.std.proofs.Common.{length, sym, ◌∙◌, true≢false}
use Rattle.cube_cover.proofs.Points.{width_read}
use Rattle.alg_div.proofs.Lists.{map-drop, position-first, position-next}
use Rattle.alg_div.proofs.steps.first_equal.Goals as goal

pub is_equal-requires : goal.is_equal-requires
is_equal-requires g c = sym (width_read g.R.Row.literals (length (g.R.Row.literals c.args.row.now)) c.args.rows.now c.loop-number.number c.index-rows-number.result c.requires c.loop-number-test.true c.index-rows-number.is)

pub returns-then-is_equal : goal.returns-then-is_equal
returns-then-is_equal g c =
    position-first c.loop-number.number (g.R.Row.literals c.args.row.now) (g.R.Row.literals c.index-rows-number.result) _ _
    (map-drop g.R.Row.literals c.args.rows.now c.loop-number.number c.index-rows-number.result c.loop-number-test.true c.index-rows-number.is)
    (c.is_equal.ensures.0 c.if-is_equal.true)
    ∙ c.loop-number.invariant

pub loop-number-preserved : goal.loop-number-preserved
loop-number-preserved g c =
    position-next c.loop-number.number (g.R.Row.literals c.args.row.now) (g.R.Row.literals c.index-rows-number.result) _ _
    (map-drop g.R.Row.literals c.args.rows.now c.loop-number.number c.index-rows-number.result c.loop-number-test.true c.index-rows-number.is)
    (λ same. true≢false (sym (c.is_equal.ensures.1 same) ∙ c.if-is_equal.false))
    ∙ c.loop-number.invariant

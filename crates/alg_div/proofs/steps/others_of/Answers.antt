use Rattle.std.proofs.Common.{ℕ, Bool, Option, List, map, sym, subst}
use Rattle.sis_base.specs.Rows.{HasWidth}
use Rattle.cube_cover.proofs.Points.{width_read}
use Rattle.alg_div.proofs.steps.others_of.Goals as goal

pub find-requires-clause-widths : goal.find-requires-clause-widths
find-requires-clause-widths g c =
    subst (λ (n : ℕ). HasWidth n (map g.R.Row.literals c.args.taken.now))
    (sym (width_read g.R.Row.literals c.args.f.now.width c.rows-rows.result.now c.loop-row.row-index c.row-item.result
    (subst (λ (x : List (List (Option Bool))). HasWidth c.args.f.now.width x) (sym c.rows-rows.ensures.items) c.rows-rows.ensures.widths) c.loop-row-test.true c.row-item.is)) c.requires.widths

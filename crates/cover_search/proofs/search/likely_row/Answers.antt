use Rattle.std.proofs.Common.{true, false, get_or}
use Rattle.cover_search.proofs.Decided.{part_filled}
use Rattle.cover_search.proofs.search.likely_row.Goals as goal

pub loop-place-preserved : goal.loop-place-preserved
loop-place-preserved g c =
    part_filled (g.R.Row.literals c.args.given.now) (g.R.Row.literals c.loop-place.made) (g.R.Row.literals c.fill_at.new.row) (get_or c.deref-place-items.result.now c.loop-place.place-index 0) true c.loop-place.invariant c.fill_at.ensures

pub loop-place-2-preserved : goal.loop-place-2-preserved
loop-place-2-preserved g c =
    part_filled (g.R.Row.literals c.args.given.now) (g.R.Row.literals c.loop-place-2.made) (g.R.Row.literals c.fill_at-in-loop-place-2.new.row) c.loop-place-2.place false c.loop-place-2.invariant c.fill_at-in-loop-place-2.ensures

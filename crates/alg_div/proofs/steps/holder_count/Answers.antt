use Rattle.std.proofs.Common.{length, sym}
use Rattle.cube_cover.proofs.Points.{width_read}
use Rattle.alg_div.proofs.steps.holder_count.Goals as goal

pub contains_row-requires : goal.contains_row-requires
contains_row-requires g c = sym (width_read g.R.Row.literals (length (g.R.Row.literals c.args.cube.now)) c.args.rows.now c.loop-row.row-index c.row-item.result c.requires c.loop-row-test.true c.row-item.is)

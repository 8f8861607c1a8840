use Rattle.std.proofs.Common.{length, arith, Bor}
use Rattle.cube_cover.proofs.Points.{width_read}
use Rattle.cover_search.proofs.narrow.some_row_contains.Goals as goal

pub contains_row-requires : goal.contains_row-requires
contains_row-requires g c =
    width_read (λ (x : Bor g.row.R.Denot). g.R.Row.literals x.now) (length (g.R.Row.literals c.args.given.now)) c.args.rows.now c.loop-row.row-index c.row-item.result c.requires (omega arith) c.row-item.is

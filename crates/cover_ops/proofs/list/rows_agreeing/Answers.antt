use Rattle.std.proofs.Common.{◌≡◌, length, arith}
use Rattle.std.proofs.Common.{Bor}
use Rattle.cube_cover.proofs.Points.{width_read}
use Rattle.cover_ops.proofs.list.rows_agreeing.Goals as goal

pub at-requires : goal.at-requires
at-requires g c =
    let e : length (g.R.Row.literals c.row-item.result.now) ≡ c.args.width = width_read (λ (x : Bor g.row.R.Denot). g.R.Row.literals x.now) c.args.width c.args.rows.now c.loop-row.row-index c.row-item.result c.requires.widths (omega arith) c.row-item.is in
    omega (arith, e, c.requires.place)

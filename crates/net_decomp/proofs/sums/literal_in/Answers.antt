use Rattle.std.proofs.Common.{◌≡◌, length, sym, ◌∙◌, arith}
use Rattle.cube_cover.specs.Literals.{row_literals}
use Rattle.net_decomp.proofs.Singles.{literal_is}
use Rattle.net_decomp.proofs.sums.literal_in.Goals as goal

pub returns-in-Some-at : goal.returns-in-Some-at
returns-in-Some-at g c =
    let wide : length (g.R.Row.literals c.args.row.now) ≡ c.args.width = omega (arith, c.width.ensures, c.if-width.false) in
    let one : row_literals (g.R.Row.literals c.args.row.now) ≡ 1 = omega (arith, c.literal_count.ensures, c.if-literal_count-ne1.false) in (
      omega (arith, c.in-Some.ensures.found.1, wide),
      literal_is (g.R.Row.literals c.args.row.now) c.args.width (record { place = c.in-Some.place; bit = c.in-Some-at.bit }) wide one (sym c.at.ensures ∙ c.in-Some-at.is),
    )

use Rattle.std.proofs.Common.{◌≡◌, length, ap, sym, ◌∙◌, arith}
use Rattle.cube_cover.proofs.Points.{width_read}
use Rattle.alg_div.specs.Steps.{literals_in}
use Rattle.std.proofs.lemmas.List.{length-map}
use Rattle.alg_kernel.proofs.Parts.{common_cube-wide}
use Rattle.alg_kernel.proofs.rows.make_cube_free.Goals as goal

pub strip_row-requires : goal.strip_row-requires
strip_row-requires c =
    let wide : length c.as_slice-in-loop-row.result.now ≡ c.args.width = ap length c.as_slice-in-loop-row.ensures.value ∙ width_read (λ v. v.items) c.args.width c.args.rows.now c.loop-row.row-index c.row-item.result c.requires.width c.loop-row-test.true c.row-item.is in
    ap length c.as_slice.ensures.value ∙ ap length c.in_ok-cube.ensures ∙ common_cube-wide c.args.width (literals_in c.args.rows.now) (omega (arith, c.requires.some, length-map c.args.rows.now (λ v. v.items))) c.requires.width ∙ sym wide

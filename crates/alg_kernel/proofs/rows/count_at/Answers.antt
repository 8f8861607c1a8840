use Rattle.std.proofs.Common.{◌≡◌, ◌+◌, Option, Bool, None, List, ◌∷◌, drop, length, get_or, ap, sym, ◌∙◌, arith}
use Rattle.cube_cover.proofs.Points.{width_read}
use Rattle.alg_div.specs.Steps.{literals_in}
use Rattle.alg_div.proofs.Lists.{map-drop}
use Rattle.cube_cover.specs.Literals.{has_literal}
use Rattle.alg_kernel.specs.Search.{holding_rows}
use Rattle.alg_kernel.proofs.Parts.{holding_rows-yes, holding_rows-not}
use Rattle.alg_kernel.proofs.rows.count_at.Goals as goal
use Rattle.alg_kernel.proofs.rows.count_at.Goals.{then-row_has_literal, else-row_has_literal}

pub row_has_literal-requires : goal.row_has_literal-requires
row_has_literal-requires c =
    let wide : length c.row-item.result.items ≡ c.args.width = width_read (λ v. v.items) c.args.width c.args.rows.now c.loop-row.row-index c.row-item.result c.requires.width c.loop-row-test.true c.row-item.is in
    omega (arith, wide, ap length c.as_slice.ensures.value, c.requires.place)

pub loop-row-preserved : goal.loop-row-preserved
loop-row-preserved c =
    let next : literals_in (drop c.loop-row.row-index c.args.rows.now) ≡ c.row-item.result.items ∷ literals_in (drop (c.loop-row.row-index + 1) c.args.rows.now) = map-drop (λ v. v.items) c.args.rows.now c.loop-row.row-index c.row-item.result c.loop-row-test.true c.row-item.is in
    let has : c.row_has_literal.result ≡ has_literal (get_or c.row-item.result.items c.args.place None) c.args.bit = c.row_has_literal.ensures ∙ ap (λ (x : List (Option Bool)). has_literal (get_or x c.args.place None) c.args.bit) c.as_slice.ensures.value in
    elim c.if-row_has_literal.branch [
      | then-row_has_literal w ↦
          let some : holding_rows c.args.place c.args.bit (literals_in (drop c.loop-row.row-index c.args.rows.now)) ≡ c.row-item.result.items ∷ holding_rows c.args.place c.args.bit (literals_in (drop (c.loop-row.row-index + 1) c.args.rows.now)) = holding_rows-yes c.args.place c.args.bit _ c.row-item.result.items _ next (sym has ∙ w.if-row_has_literal.true) in
          record { counted = omega (arith, w.count-is, ap (λ (l : List (List (Option Bool))). length l) some, c.loop-row.invariant.counted); few = omega (arith, w.count-is, c.loop-row.invariant.few) }
      | else-row_has_literal w ↦
          let none : holding_rows c.args.place c.args.bit (literals_in (drop c.loop-row.row-index c.args.rows.now)) ≡ holding_rows c.args.place c.args.bit (literals_in (drop (c.loop-row.row-index + 1) c.args.rows.now)) = holding_rows-not c.args.place c.args.bit _ c.row-item.result.items _ next (sym has ∙ w.if-row_has_literal.false) in
          record { counted = omega (arith, w.count-is, ap (λ (l : List (List (Option Bool))). length l) none, c.loop-row.invariant.counted); few = omega (arith, w.count-is, c.loop-row.invariant.few) }
    ]

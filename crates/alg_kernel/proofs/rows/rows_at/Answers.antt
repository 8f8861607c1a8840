use Rattle.std.proofs.Common.{◌≡◌, ◌+◌, Option, Bool, None, List, ◌∷◌, drop, length, get_or, append_assoc, Vec, Global, ◌++◌, [], ap, sym, ◌∙◌, arith}
use Rattle.cube_cover.proofs.Points.{width_read}
use Rattle.alg_div.specs.Steps.{literals_in}
use Rattle.alg_div.proofs.Lists.{map-drop}
use Rattle.cube_cover.specs.Literals.{has_literal}
use Rattle.alg_kernel.specs.Search.{holding_rows}
use Rattle.alg_kernel.proofs.Parts.{holding_rows-yes, holding_rows-not}
use Rattle.std.proofs.lemmas.List.{map_push}
use Rattle.alg_kernel.proofs.rows.rows_at.Goals as goal
use Rattle.alg_kernel.proofs.rows.rows_at.Goals.{then-row_has_literal+in_ok-copy_of+in_ok-push, else-row_has_literal}

pub row_has_literal-requires : goal.row_has_literal-requires
row_has_literal-requires c =
    let wide : length c.row-item.result.items ≡ c.args.width = width_read (λ v. v.items) c.args.width c.args.rows.now c.loop-row.row-index c.row-item.result c.requires.width c.loop-row-test.true c.row-item.is in
    omega (arith, wide, ap length c.as_slice.ensures.value, c.requires.place)

pub loop-row-preserved : goal.loop-row-preserved
loop-row-preserved c =
    let next : literals_in (drop c.loop-row.row-index c.args.rows.now) ≡ c.row-item.result.items ∷ literals_in (drop (c.loop-row.row-index + 1) c.args.rows.now) = map-drop (λ v. v.items) c.args.rows.now c.loop-row.row-index c.row-item.result c.loop-row-test.true c.row-item.is in
    let has : c.row_has_literal.result ≡ has_literal (get_or c.row-item.result.items c.args.place None) c.args.bit = c.row_has_literal.ensures ∙ ap (λ (x : List (Option Bool)). has_literal (get_or x c.args.place None) c.args.bit) c.as_slice.ensures.value in
    elim c.if-row_has_literal.branch [
      | then-row_has_literal+in_ok-copy_of+in_ok-push w ↦
          let some : holding_rows c.args.place c.args.bit (literals_in (drop c.loop-row.row-index c.args.rows.now)) ≡ c.row-item.result.items ∷ holding_rows c.args.place c.args.bit (literals_in (drop (c.loop-row.row-index + 1) c.args.rows.now)) = holding_rows-yes c.args.place c.args.bit _ c.row-item.result.items _ next (sym has ∙ w.if-row_has_literal.true) in
          let grown : literals_in c.if-row_has_literal.made.items ≡ literals_in c.loop-row.made.items ++ c.row-item.result.items ∷ [] =
          ap (λ (v : Vec (Vec (Option Bool) Global) Global). literals_in v.items) w.made-is ∙ ap literals_in w.in_ok-push.ensures.items ∙ map_push (λ v. v.items) c.loop-row.made.items w.in_ok-copy_of.field-0
          ∙ ap (λ (x : List (Option Bool)). literals_in c.loop-row.made.items ++ x ∷ []) (w.in_ok-copy_of.ensures ∙ w.as_slice-then-row_has_literal.ensures.value) in
          ap (λ (l : List (List (Option Bool))). l ++ holding_rows c.args.place c.args.bit (literals_in (drop (c.loop-row.row-index + 1) c.args.rows.now))) grown
          ∙ append_assoc (literals_in c.loop-row.made.items) (c.row-item.result.items ∷ []) (holding_rows c.args.place c.args.bit (literals_in (drop (c.loop-row.row-index + 1) c.args.rows.now)))
          ∙ ap (λ (l : List (List (Option Bool))). literals_in c.loop-row.made.items ++ l) (sym some) ∙ c.loop-row.invariant
      | else-row_has_literal w ↦
          let none : holding_rows c.args.place c.args.bit (literals_in (drop c.loop-row.row-index c.args.rows.now)) ≡ holding_rows c.args.place c.args.bit (literals_in (drop (c.loop-row.row-index + 1) c.args.rows.now)) = holding_rows-not c.args.place c.args.bit _ c.row-item.result.items _ next (sym has ∙ w.if-row_has_literal.false) in
          ap (λ (v : Vec (Vec (Option Bool) Global) Global). literals_in v.items ++ holding_rows c.args.place c.args.bit (literals_in (drop (c.loop-row.row-index + 1) c.args.rows.now))) w.made-is
          ∙ ap (λ (l : List (List (Option Bool))). literals_in c.loop-row.made.items ++ l) (sym none) ∙ c.loop-row.invariant
    ]

use Rattle.std.proofs.Common.{◌≡◌, map, ◌++◌, codes, sym, ap, ◌∙◌, arith, ltb}
use Rattle.alg_factor.specs.Forms.{Split}
use Rattle.alg_factor.specs.Shapes.{shape}
use Rattle.alg_factor.specs.Texts.{summand_texts, sum_text, row_text, form_text}
use Rattle.alg_factor.specs.Writing.{left_text, summands}
use Rattle.alg_factor.proofs.Expansions.{split-over, split-literals, sum-over}
use Rattle.alg_factor.proofs.Texts.{summand-written}
use Rattle.alg_factor.proofs.text.+put_tree.Goals as goal

pub put_head-requires : goal.put_head-requires
put_head-requires g t c =
    let split : shape g.R.Row.literals c.loop-here.here.now ≡ Split c.in-Term.place c.in-Term.bit (shape g.R.Row.literals c.in-Term.quotient.value) (shape g.R.Row.literals c.in-Term.rest.value) = ap (shape g.R.Row.literals) c.in-Term.is in
    (split-over _ _ _ _ _ _ split c.loop-here.invariant.over).0

pub put_tree-requires : goal.put_tree-requires
put_tree-requires g t c = λ κs s.
    let split : shape g.R.Row.literals c.loop-here.here.now ≡ Split c.in-Term.place c.in-Term.bit (shape g.R.Row.literals c.in-Term.quotient.value) (shape g.R.Row.literals c.in-Term.rest.value) = ap (shape g.R.Row.literals) c.in-Term.is in (
      rw c.deref-in-Term.ensures (omega (arith, split-literals _ _ _ _ _ split, c.loop-here.invariant.smaller, c.decreases)),
      (s, rw c.deref-in-Term.ensures (split-over _ _ _ _ _ _ split c.loop-here.invariant.over).1),
    )

pub loop-here-smaller : goal.loop-here-smaller
loop-here-smaller g t c =
    let split : shape g.R.Row.literals c.loop-here.here.now ≡ Split c.in-Term.place c.in-Term.bit (shape g.R.Row.literals c.in-Term.quotient.value) (shape g.R.Row.literals c.in-Term.rest.value) = ap (shape g.R.Row.literals) c.in-Term.is in
    rw c.deref-here.ensures (omega (arith, split-literals _ _ _ _ _ split))

pub loop-here-preserved : goal.loop-here-preserved
loop-here-preserved g t c =
    let split : shape g.R.Row.literals c.loop-here.here.now ≡ Split c.in-Term.place c.in-Term.bit (shape g.R.Row.literals c.in-Term.quotient.value) (shape g.R.Row.literals c.in-Term.rest.value) = ap (shape g.R.Row.literals) c.in-Term.is in
    let sum : c.is_sum-sum.result ≡ ltb 1 (summands (shape g.R.Row.literals c.in-Term.quotient.value)) = c.is_sum-sum.ensures ∙ ap (λ tree. ltb 1 (summands (shape g.R.Row.literals tree))) c.deref.ensures in
    let body : c.put_tree.new.text.items ≡ c.put_if.new.text.items ++ sum_text (summand_texts c.args.names.now (shape g.R.Row.literals c.in-Term.quotient.value)) =
    c.in_ok-put_tree-in-Term.ensures ∙ ap (λ tree. c.put_if.new.text.items ++ sum_text (summand_texts c.args.names.now (shape g.R.Row.literals tree))) c.deref-in-Term.ensures in
    record {
      over = rw c.deref-here.ensures (split-over _ _ _ _ _ _ split c.loop-here.invariant.over).2;
      smaller = rw c.deref-here.ensures (omega (arith, split-literals _ _ _ _ _ split, c.loop-here.invariant.smaller));
      written =
          rw c.deref-here.ensures
          (summand-written c.args.names.now _ _ _ _ _ c.loop-here.first c.is_sum-sum.result c.loop-here.text.items c.put_head.new.text.items c.put_if.new.text.items c.put_tree.new.text.items c.put_if-in-Term.new.text.items _
          split sum c.in_ok-put_head-in-Term.ensures c.in_ok-put_if-in-Term.ensures body c.in_ok-put_if-in-Term-2.ensures c.loop-here.invariant.written);
    }

pub put_rows-requires : goal.put_rows-requires
put_rows-requires g t c =
    rw c.as_slice.ensures.value (sum-over _ _ _ (ap (shape g.R.Row.literals) c.in-Rows.is) c.loop-here.invariant.over)

pub returns-in-Rows : goal.returns-in-Rows
unfolding summand_texts
returns-in-Rows g t c =
    let all : c.loop-here.text.items ++ left_text c.loop-here.first (codes "0") (codes " + ") (map (row_text c.args.names.now) (map g.R.Row.literals c.as_slice.result.now))
    ≡ c.args.text.now.items ++ form_text c.args.names.now (shape g.R.Row.literals c.args.tree.now) =
    ap (λ rows. c.loop-here.text.items ++ left_text c.loop-here.first (codes "0") (codes " + ") (map (row_text c.args.names.now) (map g.R.Row.literals rows))) c.as_slice.ensures.value
    ∙ ap (λ tree. c.loop-here.text.items ++ left_text c.loop-here.first (codes "0") (codes " + ") (summand_texts c.args.names.now (shape g.R.Row.literals tree))) (sym c.in-Rows.is)
    ∙ c.loop-here.invariant.written in
    rw (← all) c.put_rows.ensures

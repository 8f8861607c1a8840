use Rattle.std.proofs.Common.{◌≡◌, map, ◌++◌, append_assoc, sym, ap, ◌∙◌, arith}
use Rattle.alg_factor.specs.Forms.{Split, expansion_of}
use Rattle.alg_factor.specs.Shapes.{shape}
use Rattle.alg_factor.proofs.Expansions.{HasWidth-expansion_of, split-over, split-literals, split-expansion_of}
use Rattle.alg_factor.proofs.expansion.+expand_rows.Goals as goal

pub returns-in-Rows-clause-widths : goal.returns-in-Rows-clause-widths
unfolding expansion_of
returns-in-Rows-clause-widths g t c =
    let all : map g.R.Row.literals c.in_ok-all-in-Rows.all.items ≡ expansion_of (shape g.R.Row.literals c.args.tree.now) =
    c.in_ok-all-in-Rows.ensures
    ∙ ap (λ rows. map g.R.Row.literals c.loop-here.made.items ++ map g.R.Row.literals rows) c.as_slice.ensures.value
    ∙ ap (λ tree. map g.R.Row.literals c.loop-here.made.items ++ expansion_of (shape g.R.Row.literals tree)) (sym c.in-Rows.is)
    ∙ c.loop-here.invariant.rows in
    rw all (HasWidth-expansion_of _ _ c.requires)

pub expand_rows-requires : goal.expand_rows-requires
expand_rows-requires g t c = λ κs s.
    let split : shape g.R.Row.literals c.loop-here.here.now ≡ Split c.in-Term.place c.in-Term.bit (shape g.R.Row.literals c.in-Term.quotient.value) (shape g.R.Row.literals c.in-Term.rest.value) = ap (shape g.R.Row.literals) c.in-Term.is in (
      rw c.deref.ensures (omega (arith, split-literals _ _ _ _ _ split, c.loop-here.invariant.smaller, c.decreases)),
      (s, rw c.deref.ensures (split-over _ _ _ _ _ _ split c.loop-here.invariant.over).1),
    )

pub followed_with-requires-clause-place : goal.followed_with-requires-clause-place
followed_with-requires-clause-place g t c =
    let split : shape g.R.Row.literals c.loop-here.here.now ≡ Split c.in-Term.place c.in-Term.bit (shape g.R.Row.literals c.in-Term.quotient.value) (shape g.R.Row.literals c.in-Term.rest.value) = ap (shape g.R.Row.literals) c.in-Term.is in
    (split-over _ _ _ _ _ _ split c.loop-here.invariant.over).0

pub loop-here-smaller : goal.loop-here-smaller
loop-here-smaller g t c =
    let split : shape g.R.Row.literals c.loop-here.here.now ≡ Split c.in-Term.place c.in-Term.bit (shape g.R.Row.literals c.in-Term.quotient.value) (shape g.R.Row.literals c.in-Term.rest.value) = ap (shape g.R.Row.literals) c.in-Term.is in
    rw c.deref-here.ensures (omega (arith, split-literals _ _ _ _ _ split))

pub loop-here-preserved : goal.loop-here-preserved
loop-here-preserved g t c =
    let split : shape g.R.Row.literals c.loop-here.here.now ≡ Split c.in-Term.place c.in-Term.bit (shape g.R.Row.literals c.in-Term.quotient.value) (shape g.R.Row.literals c.in-Term.rest.value) = ap (shape g.R.Row.literals) c.in-Term.is in
    record {
      over = rw c.deref-here.ensures (split-over _ _ _ _ _ _ split c.loop-here.invariant.over).2;
      smaller = rw c.deref-here.ensures (omega (arith, split-literals _ _ _ _ _ split, c.loop-here.invariant.smaller));
      rows =
          rw (c.in_ok-made-in-Term.ensures, c.in_ok-part-in-Term.ensures.rows, c.deref.ensures, c.deref-here.ensures, append_assoc)
          (ap (λ rows. map g.R.Row.literals c.loop-here.made.items ++ rows) (sym (split-expansion_of _ _ _ _ _ split)) ∙ c.loop-here.invariant.rows);
    }

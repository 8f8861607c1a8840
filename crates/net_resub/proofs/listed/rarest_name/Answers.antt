use Rattle.std.proofs.Common.{◌≡◌, ℕ, false, Option, None, IfSome, List, Bor, sym, ◌∙◌, subst, arith}
use Rattle.std.specs.Prelude.{slice_index_or, is_some}
use Rattle.std.specs.List.{list_any}
use Rattle.std.proofs.lemmas.Bool.{true≢false}
use borrow.Author.Count.{below_more}
use Rattle.net_core.specs.Places.{written_of}
use Rattle.net_resub.specs.Resubbed.{row_cubes}
use Rattle.net_resub.specs.Listed.{IsNeeded}
use Rattle.net_resub.proofs.Over.{entry_needs, entry_none}
use Rattle.net_resub.proofs.listed.rarest_name.Goals as goal
use Rattle.net_resub.proofs.listed.rarest_name.Goals.{then-has_literal+then-is_rarer, else-has_literal, else-has_literal-via-then-has_literal+else-is_rarer, else-has_literal-via-else-has_literal}

pub loop-place-preserved : goal.loop-place-preserved
loop-place-preserved g c = record {
  some = elim c.if-has_literal.branch as (λ _. IfSome c.if-has_literal.rarest (λ name. IsNeeded (row_cubes (written_of c.args.entry.now)) name.now)) [
    | then-has_literal+then-is_rarer w ↦
        subst (λ (found : Option (Bor (List ℕ))). IfSome found (λ name. IsNeeded (row_cubes (written_of c.args.entry.now)) name.now)) (sym w.rarest-is)
        (entry_needs g.R.Row.literals c.as_slice-inputs.result.now c.rows-rows.result.now c.args.entry.now c.loop-place.place c.index-inputs-place.result c.as_slice-inputs.ensures c.rows-rows.ensures.items
        c.loop-place-test.true c.index-inputs-place.is (sym c.has_literal.ensures ∙ w.if-has_literal.true))
    | else-has_literal w ↦
        subst (λ (found : Option (Bor (List ℕ))). IfSome found (λ name. IsNeeded (row_cubes (written_of c.args.entry.now)) name.now)) (sym w.rarest-is) c.loop-place.invariant.some
  ];
  none = λ none.
      below_more (λ (at : ℕ). list_any (λ row. is_some (slice_index_or (g.R.Row.literals row) at None)) c.rows-rows.result.now ≡ false) c.loop-place.place
      (c.loop-place.invariant.none (unchanged none).0) (sym c.has_literal.ensures ∙ (unchanged none).1);
}
  where
    unchanged : c.if-has_literal.rarest ≡ None → (c.loop-place.rarest ≡ None) × (c.has_literal.result ≡ false)
    unchanged none = elim c.if-has_literal.branch as (λ _. (c.loop-place.rarest ≡ None) × (c.has_literal.result ≡ false)) [
      | then-has_literal+then-is_rarer w ↦ absurd (let found = sym w.rarest-is ∙ none in cc)
      | else-has_literal w ↦
          let before : c.loop-place.rarest ≡ None = sym w.rarest-is ∙ none in (
            before,
            elim w.else-has_literal.branch as (λ _. c.has_literal.result ≡ false) [
              | else-has_literal-via-then-has_literal+else-is_rarer rare ↦ absurd (true≢false (sym (rare.is_rarer.ensures before) ∙ rare.if-is_rarer.false))
              | else-has_literal-via-else-has_literal empty ↦ empty.if-has_literal.false
            ],
          )
    ]

pub returns-clause-none : goal.returns-clause-none
returns-clause-none g c = λ none.
    entry_none g.R.Row.literals c.as_slice-inputs.result.now c.rows-rows.result.now c.args.entry.now c.as_slice-inputs.ensures c.rows-rows.ensures.items
    (λ at below. c.loop-place.invariant.none none at (omega (arith, below, c.loop-place-test.false)))

-- How lists of trees compare, from a place on.
use Rattle.std.proofs.Common.{◌≡◌, ℕ, ◌+◌, List, [], ◌∷◌, length, drop, min, get_or, Less, Equal, Greater, sym, ap, ◌∙◌, inl, inr, arith}
use Rattle.std.specs.Ordering.{nat_cmp}
use Rattle.std.specs.Cmp.{nat_cmp_is}
use Rattle.std.specs.Cmp.Lexicographic.{slice_cmp}
use Rattle.std.specs.declared.cmp.Ordering.{Ordering}
use Rattle.std.proofs.lemmas.Bool.{cases_lt}
use Rattle.std.proofs.lemmas.List.{drop_more, drop_all}
use Rattle.subject_tree.specs.Trees.{Tree}
use Rattle.subject_tree.specs.Tables.{trees_of}
use Rattle.subject_tree.specs.declared.arena.Vertex.{Vertex}

module _ (cmp : Tree ℕ → Tree ℕ → Ordering) (vs : List Vertex) where
  -- at the end of the shorter list the lengths tell
  pub lengths_tell : (one other : List ℕ) (k : ℕ) (r whole : Ordering) → k ≡ min (length one) (length other) → r ≡ nat_cmp (length one) (length other)
      → slice_cmp cmp (trees_of vs (drop k one)) (trees_of vs (drop k other)) ≡ whole → r ≡ whole
  lengths_tell one other k r whole end is same = elim (cases_lt (length one) (length other)) as (λ _. r ≡ whole) [
    | inl lt ↦
        is
        ∙ (sym (nat_cmp_is (length one) (length other) Less lt)
        ∙ (sym (ap (λ (ns : List ℕ). slice_cmp cmp (trees_of vs ns) (trees_of vs (drop k other))) (drop_all k one (omega (arith, end, lt)))
        ∙ ap (λ (ns : List ℕ). slice_cmp cmp [] (trees_of vs ns)) (drop_more other k 0 (omega (arith, end, lt)))) ∙ same))
    | inr le ↦ elim (cases_lt (length other) (length one)) as (λ _. r ≡ whole) [
      | inl gt ↦
          is
          ∙ (sym (nat_cmp_is (length one) (length other) Greater gt)
          ∙ (sym (ap (λ (ns : List ℕ). slice_cmp cmp (trees_of vs ns) (trees_of vs (drop k other))) (drop_more one k 0 (omega (arith, end, gt)))
          ∙ ap (λ (ns : List ℕ). slice_cmp cmp (trees_of vs (get_or one k 0 ∷ drop (k + 1) one)) (trees_of vs ns)) (drop_all k other (omega (arith, end, gt)))) ∙ same))
      | inr ge ↦
          is
          ∙ (sym (nat_cmp_is (length one) (length other) Equal (omega (arith, le, ge)))
          ∙ (sym (ap (λ (ns : List ℕ). slice_cmp cmp (trees_of vs ns) (trees_of vs (drop k other))) (drop_all k one (omega (arith, end, le, ge)))
          ∙ ap (λ (ns : List ℕ). slice_cmp cmp [] (trees_of vs ns)) (drop_all k other (omega (arith, end, le, ge)))) ∙ same))
    ]
  ]

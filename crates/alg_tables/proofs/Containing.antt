-- A quotient has no cube if some cube of the divisor has literals that no row has all.
use Rattle.std.proofs.Common.{◌≡◌, ℕ, Bool, true, false, Option, List, [], ◌∷◌, refl, sym, ap, ◌∙◌, inl, inr}
use Rattle.std.specs.List.{list_any}
use Rattle.std.proofs.lemmas.Bool.{or_left, or_right, false≢true}
use Rattle.sis_base.specs.Rows.{HasWidth}
use Rattle.cube_cover.specs.Literals.{row_contains}
use Rattle.alg_div.specs.Cubes.{Has, times}
use Rattle.alg_div.specs.Quotient.{IsTerm, IsQuotient}
use Rattle.alg_div.proofs.Cubes.{product_has}
use Rattle.alg_tables.specs.Dividing.{quotient, has_no_cube}
use Rattle.alg_tables.specs.Containing.{some_row_has, rows_have_each}
use Rattle.alg_tables.proofs.Quotients.{all_from, quotient_is}

some_test : {X : Type 0} (test : X → Bool) (xs : List X) (x : X) → test x ≡ true → Has x xs
    → list_any test xs ≡ true
some_test test [] x h m = absurd m
some_test test (first ∷ xs) x h m =
    elim m as (λ _. list_any test (first ∷ xs) ≡ true) [
      | inl e ↦ or_left (test first) (list_any test xs) (ap test (sym e) ∙ h)
      | inr n ↦ or_right (test first) (list_any test xs) (some_test test xs x h n)
    ]

-- each cube of a divisor is within a row if the quotient has a cube
term_has : (width : ℕ) (f d : List (List (Option Bool))) (cube : List (Option Bool))
    → IsTerm width f d cube → rows_have_each d f ≡ true
term_has width f d cube term =
    all_from (λ k. some_row_has k f) d
    (λ k m. some_test (row_contains k) f (times cube k) (product_has cube k (term.apart k m))
    (term.rows k m))

pub none_without : (width : ℕ) (f d : List (List (Option Bool))) → HasWidth width f
    → rows_have_each d f ≡ false → has_no_cube (quotient width f d) ≡ true
none_without width f d wide lacks =
    cases d lacks (quotient width f d) (quotient_is width f d wide)
  where
    cases : (d : List (List (Option Bool))) → rows_have_each d f ≡ false
        → (q : List (List (Option Bool))) → IsQuotient width f d q → has_no_cube q ≡ true
    cases d lacks [] is = refl
    cases [] lacks (cube ∷ q) is = absurd (false≢true (sym lacks))
    cases (k ∷ ks) lacks (cube ∷ q) is =
        absurd (false≢true (sym lacks ∙ term_has width f (k ∷ ks) cube (is.only cube (inl refl))))

-- Literals and dashes from a column on.
use Rattle.std.proofs.Common.{◌≡◌, ℕ, ◌+◌, ◌<◌, ◌≤◌, zero, suc, Bool, true, false, Option, Some, None, is_some, List, [], ◌∷◌, length, get_or, drop, IfSome, not, refl, sym, arith, inl, inr}
use Rattle.std.proofs.lemmas.Bool.{cases_lt}
use Rattle.std.proofs.Math.Bool.{and-false}
use Rattle.cube_cover.specs.Literals.{not_dash, all_dashes}

-- no column from one on has a literal
pub all_from : (row : List (Option Bool)) (from n : ℕ) → length row ≤ n → ((i : ℕ) → from ≤ i → i < n → get_or row i None ≡ None) → all_dashes (drop from row) ≡ true
unfolding all_dashes
all_from [] zero n e h = refl
all_from [] (suc from) n e h = refl
all_from (l ∷ ls) zero n e h =
    let first : l ≡ None = h zero (omega arith) (omega (arith, e)) in
    rw first (all_from ls zero (length ls) (omega arith) (λ i a b. h (suc i) (omega arith) (omega (arith, b, e))))
all_from (l ∷ ls) (suc from) n e h = all_from ls from (length ls) (omega arith) (λ i a b. h (suc i) (omega (arith, a)) (omega (arith, b, e)))

none_is : (literal : Option Bool) → is_some literal ≡ false → literal ≡ None
none_is None h = refl
none_is (Some bit) h = cc

-- one more column without a literal
pub dashes_more : (row : List (Option Bool)) (from n : ℕ) → is_some (get_or row n None) ≡ false → ((i : ℕ) → from ≤ i → i < n → get_or row i None ≡ None) → (i : ℕ) → from ≤ i → i < n + 1 → get_or row i None ≡ None
dashes_more row from n e h i a b = elim (cases_lt i n) as (λ _. get_or row i None ≡ None) [
  | inl less ↦ h i a less
  | inr more ↦
      let same : i ≡ n = omega arith in
      rw same (none_is (get_or row n None) e)
]

-- a column from one on has a literal
pub not_all_from : (row : List (Option Bool)) (from i : ℕ) → from ≤ i → not_dash (get_or row i None) ≡ true → all_dashes (drop from row) ≡ false
unfolding all_dashes
not_all_from [] from i a h = cc
not_all_from (l ∷ ls) zero zero a h = first l h
  where
    first : (l : Option Bool) → not_dash l ≡ true → all_dashes (l ∷ ls) ≡ false
    first None k = cc
    first (Some bit) k = refl
not_all_from (l ∷ ls) zero (suc i) a h = rw (not_all_from ls zero i (omega arith) h) (and-false _)
not_all_from (l ∷ ls) (suc from) zero a h = absurd (omega arith)
not_all_from (l ∷ ls) (suc from) (suc i) a h = not_all_from ls from i (omega arith) h

-- whether no column from one on has a literal, by the search for the first
pub free_answer : (row : List (Option Bool)) (from : ℕ) (next : Option ℕ) (r : Bool) → is_some next ≡ not r → (next ≡ None → all_dashes (drop from row) ≡ true)
    → IfSome next (λ i. (from ≤ i) × (i < length row) × (not_dash (get_or row i None) ≡ true)) → r ≡ all_dashes (drop from row)
free_answer row from None true e none found = sym (none refl)
free_answer row from None false e none found = cc
free_answer row from (Some i) true e none found = cc
free_answer row from (Some i) false e none found = sym (not_all_from row from i found.0 found.2)

-- Tests and products of words, by the bits of columns.
use Rattle.std.proofs.Common.{◌≡◌, ℕ, ◌+◌, ◌*◌, ◌/◌, ◌%◌, ◌^◌, ◌<◌, ◌≤◌, ◌==◌, min, max, zero, suc, Bool, true, false, List, [], ◌∷◌, length, get_or, refl, sym, ap, ◌∙◌, arith, eq-eqb, eqb-true, IsTrue, ◌↔◌, inl, inr, ◌⊎◌, bit_and, bit_or}
use Rattle.std.proofs.lemmas.Bool.{and_from, and_parts, cases_lt}
use Rattle.std.proofs.lemmas.Nat.Bits.{bit_at_and, bit_at_or, bit_at-zero, bit_at_above, same_from_bits}
use Rattle.std.specs.Simd.Lanes.{zip2}
use Rattle.std.specs.Int.{bit_at}
use Rattle.cube_packed.specs.Planes.{plane_bit, AreApart, IsWithin, words_apart, words_within}

-- two tests with the same answer
pub same_answers : (r s : Bool) → (r ≡ true → s ≡ true) → (s ≡ true → r ≡ true) → r ≡ s
same_answers true s h k = sym (h refl)
same_answers false true h k = k refl
same_answers false false h k = refl

-- the column of a bit of a word
pub column_word : (k j : ℕ) → j < 64 → (64 * k + j) / 64 ≡ k
column_word k j h = omega arith

pub column_bit : (k j : ℕ) → j < 64 → (64 * k + j) % 64 ≡ j
column_bit k j h = omega arith

pub bit_of_column : (ws : List ℕ) (k j : ℕ) → j < 64 → plane_bit ws (64 * k + j) ≡ bit_at (get_or ws k 0) j
bit_of_column ws k j h = cc (ap (λ w. get_or ws w 0) (column_word k j h), column_bit k j h)

-- words without a common one, at each bit
apart_at : (ws vs : List ℕ) (k j : ℕ) → words_apart ws vs ≡ true → min (bit_at (get_or ws k 0) j) (bit_at (get_or vs k 0) j) ≡ 0
unfolding words_apart
apart_at [] vs k j h = omega (arith, bit_at-zero j)
apart_at (w ∷ ws) [] k j h = omega (arith, bit_at-zero j)
apart_at (w ∷ ws) (v ∷ vs) zero j h =
    sym (bit_at_and w v j) ∙ ap (λ x. bit_at x j) (eqb-true _ _ (and_parts _ _ h).0) ∙ bit_at-zero j
apart_at (w ∷ ws) (v ∷ vs) (suc k) j h = apart_at ws vs k j (and_parts (bit_and w v == 0) (words_apart ws vs) h).1

pub apart_bits : (ws vs : List ℕ) → words_apart ws vs ≡ true → AreApart ws vs
apart_bits ws vs h column = apart_at ws vs (column / 64) (column % 64) h

no_common : (w v : ℕ) → w < 2 ^ 64 → ((j : ℕ) → j < 64 → min (bit_at w j) (bit_at v j) ≡ 0) → bit_and w v ≡ 0
no_common w v lt h = same_from_bits (bit_and w v) 0 (λ j. bit_at_and w v j ∙ each j (cases_lt j 64) ∙ sym (bit_at-zero j))
  where
    each : (j : ℕ) → (j < 64) ⊎ (64 ≤ j) → min (bit_at w j) (bit_at v j) ≡ 0
    each j (inl le) = h j le
    each j (inr le) = omega (arith, bit_at_above w 64 j lt le)

apart_from_at : (ws vs : List ℕ) → ((k : ℕ) → get_or ws k 0 < 2 ^ 64) → ((k j : ℕ) → j < 64 → min (bit_at (get_or ws k 0) j) (bit_at (get_or vs k 0) j) ≡ 0) → words_apart ws vs ≡ true
unfolding words_apart
apart_from_at [] vs fit h = refl
apart_from_at (w ∷ ws) [] fit h = refl
apart_from_at (w ∷ ws) (v ∷ vs) fit h =
    and_from _ _ (eq-eqb _ _ (no_common w v (fit 0) (h 0))) (apart_from_at ws vs (λ k. fit (suc k)) (λ k. h (suc k)))

apart_from_bits : (ws vs : List ℕ) → ((k : ℕ) → get_or ws k 0 < 2 ^ 64) → AreApart ws vs → words_apart ws vs ≡ true
apart_from_bits ws vs fit h =
    apart_from_at ws vs fit (λ k j lt. let e = h (64 * k + j) in cc (bit_of_column ws k j lt, bit_of_column vs k j lt))

-- what the test by words answers
pub apart_answer : (ws vs : List ℕ) → ((k : ℕ) → get_or ws k 0 < 2 ^ 64) → (r : Bool) → r ≡ words_apart ws vs → IsTrue r ↔ AreApart ws vs
apart_answer ws vs fit r e = (λ t. apart_bits ws vs (sym e ∙ t), λ h. e ∙ apart_from_bits ws vs fit h)

-- words whose ones the others have, at each bit
within_at : (ws vs : List ℕ) (k j : ℕ) → length ws ≡ length vs → words_within ws vs ≡ true → bit_at (get_or ws k 0) j ≤ bit_at (get_or vs k 0) j
unfolding words_within
within_at [] vs k j e h = omega (arith, bit_at-zero j)
within_at (w ∷ ws) [] k j e h = absurd (omega arith)
within_at (w ∷ ws) (v ∷ vs) zero j e h =
    omega (arith, bit_at_and w v j, ap (λ x. bit_at x j) (eqb-true _ _ (and_parts (bit_and w v == w) (words_within ws vs) h).0))
within_at (w ∷ ws) (v ∷ vs) (suc k) j e h = within_at ws vs k j (omega arith) (and_parts (bit_and w v == w) (words_within ws vs) h).1

all_common : (w v : ℕ) → w < 2 ^ 64 → ((j : ℕ) → j < 64 → bit_at w j ≤ bit_at v j) → bit_and w v ≡ w
all_common w v lt h = same_from_bits (bit_and w v) w (λ j. bit_at_and w v j ∙ each j (cases_lt j 64))
  where
    each : (j : ℕ) → (j < 64) ⊎ (64 ≤ j) → min (bit_at w j) (bit_at v j) ≡ bit_at w j
    each j (inl le) = omega (arith, h j le)
    each j (inr le) = omega (arith, bit_at_above w 64 j lt le)

within_from_at : (ws vs : List ℕ) → ((k : ℕ) → get_or ws k 0 < 2 ^ 64) → ((k j : ℕ) → j < 64 → bit_at (get_or ws k 0) j ≤ bit_at (get_or vs k 0) j) → words_within ws vs ≡ true
unfolding words_within
within_from_at [] vs fit h = refl
within_from_at (w ∷ ws) [] fit h = refl
within_from_at (w ∷ ws) (v ∷ vs) fit h =
    and_from _ _ (eq-eqb _ _ (all_common w v (fit 0) (h 0))) (within_from_at ws vs (λ k. fit (suc k)) (λ k. h (suc k)))

within_from_bits : (ws vs : List ℕ) → ((k : ℕ) → get_or ws k 0 < 2 ^ 64) → IsWithin ws vs → words_within ws vs ≡ true
within_from_bits ws vs fit h =
    within_from_at ws vs fit (λ k j lt. omega (arith, h (64 * k + j), bit_of_column ws k j lt, bit_of_column vs k j lt))

pub within_answer : (ws vs : List ℕ) → length ws ≡ length vs → ((k : ℕ) → get_or ws k 0 < 2 ^ 64) → (r : Bool) → r ≡ words_within ws vs → IsTrue r ↔ IsWithin ws vs
within_answer ws vs e fit r h =
    (λ t column. within_at ws vs (column / 64) (column % 64) e (sym h ∙ t), λ k. h ∙ within_from_bits ws vs fit k)

-- a column of the product of two planes
joined_at : (ws vs : List ℕ) (k j : ℕ) → length ws ≡ length vs → bit_at (get_or (zip2 bit_or ws vs) k 0) j ≡ max (bit_at (get_or ws k 0) j) (bit_at (get_or vs k 0) j)
joined_at [] [] k j e = omega (arith, bit_at-zero j)
joined_at [] (v ∷ vs) k j e = absurd (omega arith)
joined_at (w ∷ ws) [] k j e = absurd (omega arith)
joined_at (w ∷ ws) (v ∷ vs) zero j e = bit_at_or w v j
joined_at (w ∷ ws) (v ∷ vs) (suc k) j e = joined_at ws vs k j (omega arith)

pub joined_bit : (ws vs : List ℕ) (column : ℕ) → length ws ≡ length vs → plane_bit (zip2 bit_or ws vs) column ≡ max (plane_bit ws column) (plane_bit vs column)
joined_bit ws vs column e = joined_at ws vs (column / 64) (column % 64) e

-- a column of the ones that two planes have in common
common_at : (ws vs : List ℕ) (k j : ℕ) → bit_at (get_or (zip2 bit_and ws vs) k 0) j ≡ min (bit_at (get_or ws k 0) j) (bit_at (get_or vs k 0) j)
common_at [] vs k j = omega (arith, bit_at-zero j)
common_at (w ∷ ws) [] k j = omega (arith, bit_at-zero j)
common_at (w ∷ ws) (v ∷ vs) zero j = bit_at_and w v j
common_at (w ∷ ws) (v ∷ vs) (suc k) j = common_at ws vs k j

pub common_bit : (ws vs : List ℕ) (column : ℕ) → plane_bit (zip2 bit_and ws vs) column ≡ min (plane_bit ws column) (plane_bit vs column)
common_bit ws vs column = common_at ws vs (column / 64) (column % 64)

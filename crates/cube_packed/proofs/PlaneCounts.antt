-- The number of literals by the ones of words.
use Rattle.std.proofs.Common.{◌≡◌, ℕ, ◌+◌, ◌*◌, ◌/◌, ◌%◌, ◌^◌, ◌<◌, ◌≤◌, min, max, zero, suc, Bool, Option, Some, None, List, [], ◌∷◌, length, get_or, drop, refl, sym, ap, ◌∙◌, subst, arith, inl, inr, ◌⊎◌, bit_or}
use Rattle.std.specs.Int.RustNames.{count_ones}
use Rattle.std.specs.Int.{bit_at}
use Rattle.std.proofs.lemmas.Bool.{cases_lt}
use Rattle.std.proofs.lemmas.List.{drop_more, drop_all, get_or_past}
use Rattle.std.proofs.lemmas.Nat.{ones_cat, ones_le_self, zero_from_ones}
use Rattle.std.proofs.lemmas.Nat.Bits.{bit_at_lowest, bit_at-suc, bit_at-lt, bit_at_or}
use Rattle.cube_cover.specs.Literals.{literal_number, row_literals}
use Rattle.cube_packed.specs.Planes.{plane_bit, literal_of, plane_literals, AreCube}
use Rattle.cube_packed.proofs.PlaneBits.{bit_of_column}
use Rattle.cube_packed.proofs.PlaneLiterals.{length-plane_literals, literal_at}

-- ---- the literals of a row from a column on
literals_more : (row : List (Option Bool)) (i : ℕ) → row_literals (drop i row) ≡ literal_number (get_or row i None) + row_literals (drop (i + 1) row)
unfolding row_literals
literals_more row i = cases (cases_lt i (length row))
  where
    cases : (i < length row) ⊎ (length row ≤ i) → row_literals (drop i row) ≡ literal_number (get_or row i None) + row_literals (drop (i + 1) row)
    cases (inl lt) = ap row_literals (drop_more row i None lt)
    cases (inr le) =
        let dash : get_or row i None ≡ None = get_or_past row i None le in
        rw (drop_all i row le, drop_all (i + 1) row (omega arith), dash) refl

few_literals : (row : List (Option Bool)) → row_literals row ≤ length row
unfolding row_literals
few_literals [] = omega arith
few_literals (None ∷ row) = omega (arith, few_literals row)
few_literals (Some bit ∷ row) = omega (arith, few_literals row)

number_by_bits : (p n : ℕ) → p < 2 → n < 2 → min p n ≡ 0 → literal_number (literal_of p n) ≡ max p n
number_by_bits zero zero a b h = omega arith
number_by_bits zero (suc n) a b h = omega arith
number_by_bits (suc p) n a b h = omega arith

-- 1 for a literal, by the bits of a column
literal_bits : (row : List (Option Bool)) (p n : List ℕ) (i : ℕ) → plane_literals (length row) p n ≡ row → AreCube (length row) p n → literal_number (get_or row i None) ≡ max (plane_bit p i) (plane_bit n i)
literal_bits row p n i e c = cases (cases_lt i (length row))
  where
    cases : (i < length row) ⊎ (length row ≤ i) → literal_number (get_or row i None) ≡ max (plane_bit p i) (plane_bit n i)
    cases (inl lt) = ap literal_number (literal_at row p n e i lt) ∙ number_by_bits (plane_bit p i) (plane_bit n i) (bit_at-lt _ _) (bit_at-lt _ _) (c.apart i)
    cases (inr le) =
        let dash : get_or row i None ≡ None = get_or_past row i None le in
        ap literal_number dash ∙ omega (arith, c.positive_end i le, c.negative_end i le)

-- ---- the ones of a word
at_most_one : (c : ℕ) → c ≤ 1 → (c ≡ 0 → ⊥) → c ≡ 1
at_most_one zero h ne = absurd (ne refl)
at_most_one (suc zero) h ne = refl
at_most_one (suc (suc c)) h ne = absurd (omega arith)

ones_half : (w : ℕ) → count_ones w ≡ bit_at w 0 + count_ones (w / 2)
ones_half w =
    let whole : w ≡ w / 2 * 2 ^ 1 + w % 2 = omega arith in
    ap count_ones whole ∙ ones_cat 1 (w / 2) (w % 2) (omega arith) ∙ omega (arith, bit_at_lowest w, lowest (w % 2) (omega arith))
  where
    lowest : (r : ℕ) → r < 2 → count_ones r ≡ r
    lowest zero h = omega (arith, ones_le_self 0)
    lowest (suc zero) h = at_most_one (count_ones 1) (ones_le_self 1) (λ e. absurd (omega (arith, zero_from_ones 1 e)))
    lowest (suc (suc r)) h = absurd (omega arith)

ones_from : (row : List (Option Bool)) (k i w : ℕ) → w < 2 ^ k → ((j : ℕ) → j < k → literal_number (get_or row (i + j) None) ≡ bit_at w j) → row_literals (drop i row) ≡ count_ones w + row_literals (drop (i + k) row)
ones_from row zero i w lt h =
    let same : i + 0 ≡ i = omega arith in
    rw same (omega (arith, ones_le_self w, lt))
ones_from row (suc k) i w lt h =
    let next : i + 1 + k ≡ i + suc k = omega arith in
    let here : literal_number (get_or row i None) ≡ bit_at w 0 = let same : i + 0 ≡ i = omega arith in sym (ap (λ c. literal_number (get_or row c None)) same) ∙ h 0 (omega arith) in
    let rest : row_literals (drop (i + 1) row) ≡ count_ones (w / 2) + row_literals (drop (i + suc k) row) =
    ones_from row k (i + 1) (w / 2) (omega (arith, lt)) (λ j le. let step : i + 1 + j ≡ i + suc j = omega arith in ap (λ c. literal_number (get_or row c None)) step ∙ h (suc j) (omega arith) ∙ bit_at-suc w j)
    ∙ ap (λ c. count_ones (w / 2) + row_literals (drop c row)) next in
    omega (arith, literals_more row i, here, rest, ones_half w)

-- ---- a word more is counted
pub ones_more : (width : ℕ) (p n : List ℕ) (place count new : ℕ) → AreCube width p n → bit_or (get_or p place 0) (get_or n place 0) < 2 ^ 64
    → count + row_literals (drop (64 * place) (plane_literals width p n)) ≡ row_literals (plane_literals width p n) → new ≡ count + count_ones (bit_or (get_or p place 0) (get_or n place 0))
    → new + row_literals (drop (64 * (place + 1)) (plane_literals width p n)) ≡ row_literals (plane_literals width p n)
ones_more width p n place count new c fit inv e =
    let row = plane_literals width p n in
    let wide : length row ≡ width = length-plane_literals width p n in
    let next : 64 * place + 64 ≡ 64 * (place + 1) = omega arith in
    let step = ones_from row 64 (64 * place) (bit_or (get_or p place 0) (get_or n place 0)) fit
    (λ j lt. literal_bits row p n (64 * place + j) (ap (λ k. plane_literals k p n) wide) (subst (λ k. AreCube k p n) (sym wide) c)
    ∙ rw (bit_of_column p place j lt, bit_of_column n place j lt) (sym (bit_at_or (get_or p place 0) (get_or n place 0) j))) in
    omega (arith, e, inv, step ∙ ap (λ k. count_ones (bit_or (get_or p place 0) (get_or n place 0)) + row_literals (drop k row)) next)

-- there are no more ones than columns
pub ones_fit : (width : ℕ) (p n : List ℕ) (place count ones : ℕ) → AreCube width p n → bit_or (get_or p place 0) (get_or n place 0) < 2 ^ 64 → count + row_literals (drop (64 * place) (plane_literals width p n)) ≡ row_literals (plane_literals width p n)
    → ones ≡ count_ones (bit_or (get_or p place 0) (get_or n place 0)) → count + ones ≤ width
ones_fit width p n place count ones c fit inv e =
    omega (arith, e, ones_more width p n place count (count + count_ones (bit_or (get_or p place 0) (get_or n place 0))) c fit inv refl, few_literals (plane_literals width p n), length-plane_literals width p n)

pub ones_end : (width : ℕ) (p n : List ℕ) (place count : ℕ) → AreCube width p n → length p ≤ place → count + row_literals (drop (64 * place) (plane_literals width p n)) ≡ row_literals (plane_literals width p n)
    → count ≡ row_literals (plane_literals width p n)
unfolding row_literals
ones_end width p n place count c le inv =
    let none : drop (64 * place) (plane_literals width p n) ≡ [] = drop_all (64 * place) (plane_literals width p n) (omega (arith, length-plane_literals width p n, c.positive_size, le)) in
    let zero-left : row_literals (drop (64 * place) (plane_literals width p n)) ≡ 0 = ap row_literals none in
    omega (arith, inv, zero-left)

-- The first column with a one.
use Rattle.std.proofs.Common.{◌≡◌, ◌≢◌, ℕ, zero, suc, ◌+◌, ◌-◌, ◌*◌, ◌/◌, ◌%◌, ◌^◌, ◌<◌, ◌≤◌, min, max, List, get_or, refl, sym, ap, ◌∙◌, arith, inl, inr, ◌⊎◌, bit_and, bit_or}
use Rattle.std.proofs.lemmas.Bool.{cases_lt}
use Rattle.std.proofs.lemmas.Nat.{one_shl, pow_below, pow_pos}
use Rattle.std.proofs.lemmas.Nat.Bits.{bit_at_and, bit_at_or, bit_at_not, bit_at_ones, bit_at_above, bit_at-lt, bit_at-zero, bit_at-trailing_zeros}
use Rattle.std.specs.Int.{bit_at, bit_not, trailing_zeros, w64}
use Rattle.cube_packed.specs.Planes.{plane_bit, AreCube}

-- ---- a word without its lowest bits
low_mask : (k : ℕ) → k < 64 → 1 * 2 ^ k % 2 ^ 64 - 1 ≡ 2 ^ k - 1
low_mask k lt = ap (λ x. x - 1) (one_shl k 64 lt)

pub bits_before : (w k i : ℕ) → k < 64 → i < k → bit_at (bit_and w (bit_not w64 (1 * 2 ^ k % 2 ^ 64 - 1))) i ≡ 0
bits_before w k i lt h =
    let fits : 2 ^ k - 1 < 2 ^ 64 = omega (arith, pow_below k 64 lt) in
    ap (λ m. bit_at (bit_and w (bit_not w64 m)) i) (low_mask k lt)
    ∙ omega (arith, bit_at_and w (bit_not w64 (2 ^ k - 1)) i, bit_at_not w64 (2 ^ k - 1) i fits (omega arith), bit_at_ones k i h)

pub bits_behind : (w k i : ℕ) → w < 2 ^ 64 → k < 64 → k ≤ i → bit_at (bit_and w (bit_not w64 (1 * 2 ^ k % 2 ^ 64 - 1))) i ≡ bit_at w i
bits_behind w k i fit lt h = ap (λ m. bit_at (bit_and w (bit_not w64 m)) i) (low_mask k lt) ∙ bit_at_and w (bit_not w64 (2 ^ k - 1)) i ∙ cases (cases_lt i 64)
  where
    below : 2 ^ k - 1 < 2 ^ k
    below = omega (arith, pow_pos k)

    cases : (i < 64) ⊎ (64 ≤ i) → min (bit_at w i) (bit_at (bit_not w64 (2 ^ k - 1)) i) ≡ bit_at w i
    cases (inl le) =
        let fits : 2 ^ k - 1 < 2 ^ 64 = omega (arith, pow_below k 64 lt) in
        let none : bit_at (2 ^ k - 1) i ≡ 0 = bit_at_above (2 ^ k - 1) k i below h in
        omega (arith, bit_at_not w64 (2 ^ k - 1) i fits le, none, bit_at-lt w i)
    cases (inr ge) = omega (arith, bit_at_above w 64 i fit ge)

-- ---- the words before a place have no ones from a column on
abbrev pub none_before : ℕ → List ℕ → List ℕ → ℕ → Type 0
none_before from ws vs end = (column : ℕ) → from ≤ column → column < end → max (plane_bit ws column) (plane_bit vs column) ≡ 0

-- the bits of a word of both planes from a column on
abbrev pub IsRest : ℕ → ℕ → ℕ → Type 0
IsRest ones both passed = (i : ℕ) → passed ≤ i → bit_at ones i ≡ bit_at both i

rest_bit : (ws vs : List ℕ) (place ones passed from column : ℕ) → IsRest ones (bit_or (get_or ws place 0) (get_or vs place 0)) passed → passed ≡ from - 64 * place → from ≤ column → column / 64 ≡ place
    → max (plane_bit ws column) (plane_bit vs column) ≡ bit_at ones (column % 64)
rest_bit ws vs place ones passed from column h p le e =
    let same : max (plane_bit ws column) (plane_bit vs column) ≡ max (bit_at (get_or ws place 0) (column % 64)) (bit_at (get_or vs place 0) (column % 64)) =
    ap (λ k. max (bit_at (get_or ws k 0) (column % 64)) (bit_at (get_or vs k 0) (column % 64))) e in
    same ∙ sym (bit_at_or (get_or ws place 0) (get_or vs place 0) (column % 64)) ∙ sym (h (column % 64) (omega (arith, p, le, e)))

-- a word without a one
pub none_more : (ws vs : List ℕ) (place ones passed from : ℕ) → IsRest ones (bit_or (get_or ws place 0) (get_or vs place 0)) passed → passed ≡ from - 64 * place → ones ≡ 0
    → none_before from ws vs (64 * place) → none_before from ws vs (64 * (place + 1))
none_more ws vs place ones passed from h p e before column le lt = cases (cases_lt column (64 * place))
  where
    cases : (column < 64 * place) ⊎ (64 * place ≤ column) → max (plane_bit ws column) (plane_bit vs column) ≡ 0
    cases (inl less) = before column le less
    cases (inr more) = rest_bit ws vs place ones passed from column h p le (omega arith) ∙ ap (λ x. bit_at x (column % 64)) e ∙ bit_at-zero (column % 64)

-- the column of the lowest one of a word
pub record IsNext (ws vs : List ℕ) (from column : ℕ) : Type 0 where
  pub after : from ≤ column
  pub one : max (plane_bit ws column) (plane_bit vs column) ≡ 1
  pub before : none_before from ws vs column

next_in : (ws vs : List ℕ) (place ones passed from t : ℕ) → IsRest ones (bit_or (get_or ws place 0) (get_or vs place 0)) passed → passed ≡ from - 64 * place → ((i : ℕ) → i < passed → bit_at ones i ≡ 0)
    → t < 64 → bit_at ones t ≡ 1 → ((i : ℕ) → i < t → bit_at ones i ≡ 0)
    → none_before from ws vs (64 * place) → IsNext ws vs from (64 * place + t)
next_in ws vs place ones passed from t h p low lt one less before = record {
  after = reached (cases_lt t passed);
  one = rest_bit ws vs place ones passed from (64 * place + t) h p (reached (cases_lt t passed)) (omega (arith, lt)) ∙ ap (bit_at ones) there ∙ one;
  before = λ column le lc. cases column le lc (cases_lt column (64 * place));
}
  where
    there : (64 * place + t) % 64 ≡ t
    there = omega (arith, lt)

    reached : (t < passed) ⊎ (passed ≤ t) → from ≤ 64 * place + t
    reached (inl k) = absurd (omega (arith, low t k, one))
    reached (inr k) = omega (arith, p, k)

    cases : (column : ℕ) → from ≤ column → column < 64 * place + t → (column < 64 * place) ⊎ (64 * place ≤ column) → max (plane_bit ws column) (plane_bit vs column) ≡ 0
    cases column le lc (inl k) = before column le k
    cases column le lc (inr k) = rest_bit ws vs place ones passed from column h p le (omega (arith, lt)) ∙ less (column % 64) (omega (arith, lt))

some_from : (n : ℕ) → n ≢ 0 → 0 < n
some_from zero h = absurd (h refl)
some_from (suc n) h = omega arith

pub next_found : (ws vs : List ℕ) (place ones passed from : ℕ) → IsRest ones (bit_or (get_or ws place 0) (get_or vs place 0)) passed → passed ≡ from - 64 * place → ((i : ℕ) → i < passed → bit_at ones i ≡ 0)
    → ones ≢ 0 → ones < 2 ^ 64 → none_before from ws vs (64 * place) → IsNext ws vs from (64 * place + trailing_zeros w64 ones)
next_found ws vs place ones passed from h p low ne fit before =
    let lowest = bit_at-trailing_zeros w64 ones (some_from ones ne) fit in
    next_in ws vs place ones passed from (trailing_zeros w64 ones) h p low lowest.0 lowest.1 lowest.2 before

pub next_inside : (width : ℕ) (ws vs : List ℕ) (from column : ℕ) → AreCube width ws vs → IsNext ws vs from column → column < width
next_inside width ws vs from column h n = cases (cases_lt column width)
  where
    cases : (column < width) ⊎ (width ≤ column) → column < width
    cases (inl lt) = lt
    cases (inr le) = absurd (omega (arith, n.one, h.positive_end column le, h.negative_end column le))

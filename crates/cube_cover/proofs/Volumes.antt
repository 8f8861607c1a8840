-- A cover whose rows contain fewer than all points together is no tautology.
use Rattle.std.proofs.Common.{◌≡◌, ℕ, ◌<◌, ◌≤◌, ◌+◌, ◌-◌, ◌*◌, ◌^◌, zero, suc, Bool, true, false, ◌&&◌, ◌||◌, if◌then◌else◌, Option, Some, None, List, [], ◌∷◌, length, refl, sym, ap, ◌∙◌, subst, arith, IsTrue, ◌↔◌}
use Rattle.std.proofs.Math.Nat.{mul-add, add-mul, mul-le-mul_left, mul-le-mul_right}
use Rattle.sis_base.specs.Rows.{agrees, matches, some_matches, HasWidth}
use Rattle.cube_cover.specs.Covers.{IsTautology}
use Rattle.cube_cover.specs.Literals.{row_literals}
use Rattle.cube_cover.specs.Volumes.{cover_shares}

-- the powers of two, by doubling
unfoldable power : ℕ → ℕ
power zero = 1
power (suc n) = power n + power n

power_is : (n : ℕ) → 2 ^ n ≡ power n
unfolding power
power_is zero = refl
power_is (suc n) = omega (arith, power_is n)

power_some : (n : ℕ) → 0 < power n
unfolding power
power_some zero = omega arith
power_some (suc n) = omega (arith, power_some n)

-- how many points a row has, and the rows of a cover have together
unfoldable points_in : List (Option Bool) → ℕ
points_in [] = 1
points_in (None ∷ places) = points_in places + points_in places
points_in (Some literal ∷ places) = points_in places

unfoldable points_sum : List (List (Option Bool)) → ℕ
points_sum [] = 0
points_sum (row ∷ rows) = points_in row + points_sum rows

-- the rows that agree with a bit in the first column, without that column
unfoldable tails : Bool → List (List (Option Bool)) → List (List (Option Bool))
tails b [] = []
tails b ([] ∷ rows) = tails b rows
tails b ((l ∷ ls) ∷ rows) = if agrees l b then ls ∷ tails b rows else tails b rows

tails_match : (w : ℕ) (b : Bool) (rows : List (List (Option Bool))) (q : List Bool) → HasWidth (suc w) rows → some_matches rows (b ∷ q) ≡ some_matches (tails b rows) q
unfolding some_matches matches tails HasWidth
tails_match w b [] q h = refl
tails_match w b ([] ∷ rows) q h = absurd (omega (arith, h.0))
tails_match w b ((l ∷ ls) ∷ rows) q h = cases (agrees l b) (tails_match w b rows q h.1)
  where
    cases : (t : Bool) → some_matches rows (b ∷ q) ≡ some_matches (tails b rows) q → ((t && matches ls q) || some_matches rows (b ∷ q)) ≡ some_matches (if t then ls ∷ tails b rows else tails b rows) q
    cases true rest = ap (λ (x : Bool). matches ls q || x) rest
    cases false rest = rest

HasWidth-tails : (w : ℕ) (b : Bool) (rows : List (List (Option Bool))) → HasWidth (suc w) rows → HasWidth w (tails b rows)
unfolding tails HasWidth
HasWidth-tails w b [] h = tt
HasWidth-tails w b ([] ∷ rows) h = HasWidth-tails w b rows h.1
HasWidth-tails w b ((l ∷ ls) ∷ rows) h = cases (agrees l b) (HasWidth-tails w b rows h.1)
  where
    cases : (t : Bool) → HasWidth w (tails b rows) → HasWidth w (if t then ls ∷ tails b rows else tails b rows)
    cases true rest = (omega (arith, h.0), rest)
    cases false rest = rest

tails_sum : (w : ℕ) (rows : List (List (Option Bool))) → HasWidth (suc w) rows → points_sum (tails false rows) + points_sum (tails true rows) ≡ points_sum rows
unfolding tails points_in points_sum HasWidth
tails_sum w [] h = refl
tails_sum w ([] ∷ rows) h = absurd (omega (arith, h.0))
tails_sum w ((None ∷ ls) ∷ rows) h = omega (arith, tails_sum w rows h.1)
tails_sum w ((Some true ∷ ls) ∷ rows) h = omega (arith, tails_sum w rows h.1)
tails_sum w ((Some false ∷ ls) ∷ rows) h = omega (arith, tails_sum w rows h.1)

-- rows that have each point have as many points together
covered_sum : (w : ℕ) (rows : List (List (Option Bool))) → HasWidth w rows → ((p : List Bool) → length p ≡ w → some_matches rows p ≡ true) → power w ≤ points_sum rows
unfolding power points_in points_sum some_matches HasWidth
covered_sum zero [] h t = absurd (none (t [] refl))
  where
    none : false ≡ true → ⊥
    none e = cc
covered_sum zero ([] ∷ rows) h t = omega arith
covered_sum zero ((l ∷ ls) ∷ rows) h t = absurd (omega (arith, h.0))
covered_sum (suc w) rows h t =
    let half : (b : Bool) → power w ≤ points_sum (tails b rows) = λ b. covered_sum w (tails b rows) (HasWidth-tails w b rows h) (λ q d. sym (tails_match w b rows q h) ∙ t (b ∷ q) (omega (arith, d))) in
    omega (arith, half false, half true, tails_sum w rows h)

twice_right : (a c p q : ℕ) → a * c ≤ p * q → a * (c + c) ≤ p * (q + q)
twice_right a c p q h = rw (mul-add a c c, mul-add p q q) (omega (arith, h))

twice_left : (a c p q : ℕ) → a * c ≤ p * q → (a + a) * c ≤ p * (q + q)
twice_left a c p q h = rw (add-mul a a c, mul-add p q q) (omega (arith, h))

-- a row has as many points as its share says, or fewer
row_share : (s : ℕ) (row : List (Option Bool)) → power s * points_in row ≤ power (s - row_literals row) * power (length row)
unfolding power points_in row_literals
row_share s [] =
    let same : s - 0 ≡ s = omega arith in
    subst (λ (n : ℕ). power s * 1 ≤ power n * 1) (sym same) (omega arith)
row_share s (None ∷ ls) =
    let same : row_literals ls ≡ 0 + row_literals ls = omega arith in
    subst (λ (n : ℕ). power s * (points_in ls + points_in ls) ≤ power (s - n) * (power (length ls) + power (length ls))) same
    (twice_right (power s) (points_in ls) (power (s - row_literals ls)) (power (length ls)) (row_share s ls))
row_share zero (Some x ∷ ls) =
    let none : (k : ℕ) → 0 - k ≡ 0 = λ k. omega arith in
    let rest : 1 * points_in ls ≤ 1 * power (length ls) = subst (λ (n : ℕ). 1 * points_in ls ≤ power n * power (length ls)) (none (row_literals ls)) (row_share zero ls) in
    subst (λ (n : ℕ). 1 * points_in ls ≤ power n * (power (length ls) + power (length ls))) (sym (none (1 + row_literals ls))) (omega (arith, rest))
row_share (suc s) (Some x ∷ ls) =
    let less : suc s - (1 + row_literals ls) ≡ s - row_literals ls = omega arith in
    subst (λ (n : ℕ). (power s + power s) * points_in ls ≤ power n * (power (length ls) + power (length ls))) (sym less)
    (twice_left (power s) (points_in ls) (power (s - row_literals ls)) (power (length ls)) (row_share s ls))

rows_share : (w : ℕ) (rows : List (List (Option Bool))) → HasWidth w rows → power 63 * points_sum rows ≤ cover_shares rows * power w
unfolding points_sum cover_shares HasWidth
rows_share w [] h = omega arith
rows_share w (row ∷ rows) h =
    let first : power 63 * points_in row ≤ 2 ^ (63 - row_literals row) * power w =
    subst (λ (n : ℕ). power 63 * points_in row ≤ n * power w) (sym (power_is (63 - row_literals row))) (subst (λ (n : ℕ). power 63 * points_in row ≤ power (63 - row_literals row) * power n) h.0 (row_share 63 row)) in
    rw (mul-add (power 63) (points_in row) (points_sum rows), add-mul (2 ^ (63 - row_literals row)) (cover_shares rows) (power w)) (omega (arith, first, rows_share w rows h.1))

apart : (shares all points : ℕ) → 0 < points → all * points ≤ shares * points → shares < all → ⊥
apart shares all points some h less =
    let more : (shares + 1) * points ≤ all * points = mul-le-mul_right points (omega (arith, less)) in
    let whole : (shares + 1) * points ≡ shares * points + 1 * points = add-mul shares 1 points in
    absurd (omega (arith, more, whole, h, some))

pub small_answer : (w : ℕ) (rows : List (List (Option Bool))) → HasWidth w rows → cover_shares rows < 2 ^ 63 → IsTrue false ↔ IsTautology (record { width = w; rows = rows })
small_answer w rows h less = (
  λ t. cc,
  λ t.
      let whole : power 63 * power w ≤ power 63 * points_sum rows = mul-le-mul_left (power 63) (covered_sum w rows h t) in
      absurd (apart (cover_shares rows) (power 63) (power w) (power_some w) (omega (arith, whole, rows_share w rows h)) (subst (λ (n : ℕ). cover_shares rows < n) (power_is 63) less)),
)

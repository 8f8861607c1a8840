-- A test holds at some point where there is such a point; and what is kept when the test or the row changes.
use Rattle.std.proofs.Common.{◌≡◌, ℕ, zero, suc, Bool, true, false, ◌&&◌, Option, List, [], ◌∷◌, length, refl, sym, ap, ◌∙◌, ◌↔◌, ◌⊎◌, inl, inr, arith}
use Rattle.std.proofs.lemmas.Bool.{or_cases, or_left, or_right, and_from}
use Rattle.sis_base.specs.Rows.{matches, IsPoint}
use Rattle.cube_cover.proofs.Points.{and_left, and_right, bool_cases}
use Rattle.cover_min.specs.Points.{some_point, has_point, PointOf}

-- a point of a width at which a test holds
pub some_point_found : (n : ℕ) (test : List Bool → Bool) → some_point n test ≡ true → (p : List Bool) × IsPoint n p × (test p ≡ true)
unfolding some_point
some_point_found zero test h = ([], refl, h)
some_point_found (suc n) test h = cases (or_cases _ _ h) (λ k. some_point_found n (λ p. test (false ∷ p)) k) (λ k. some_point_found n (λ p. test (true ∷ p)) k)
  where
    cases : (some_point n (λ p. test (false ∷ p)) ≡ true) ⊎ (some_point n (λ p. test (true ∷ p)) ≡ true)
        → (some_point n (λ p. test (false ∷ p)) ≡ true → (p : List Bool) × IsPoint n p × (test (false ∷ p) ≡ true))
        → (some_point n (λ p. test (true ∷ p)) ≡ true → (p : List Bool) × IsPoint n p × (test (true ∷ p) ≡ true))
        → (p : List Bool) × IsPoint (suc n) p × (test p ≡ true)
    cases (inl k) low high = let (p, d, t) = low k in (false ∷ p, ap suc d, t)
    cases (inr k) low high = let (p, d, t) = high k in (true ∷ p, ap suc d, t)

pub some_point_at : (n : ℕ) (test : List Bool → Bool) (p : List Bool) → IsPoint n p → test p ≡ true → some_point n test ≡ true
unfolding some_point
some_point_at zero test [] d t = t
some_point_at zero test (b ∷ p) d t = absurd (omega (arith, d))
some_point_at (suc n) test [] d t = absurd (omega (arith, d))
some_point_at (suc n) test (false ∷ p) d t = or_left _ _ (some_point_at n (λ p. test (false ∷ p)) p (omega (arith, d)) t)
some_point_at (suc n) test (true ∷ p) d t = or_right _ _ (some_point_at n (λ p. test (true ∷ p)) p (omega (arith, d)) t)

-- tests that are the same at each point of the width
pub some_point_same : (n : ℕ) (test other : List Bool → Bool) → ((p : List Bool) → IsPoint n p → test p ≡ other p) → some_point n test ≡ some_point n other
unfolding some_point
some_point_same zero test other h = h [] refl
some_point_same (suc n) test other h =
    let low : some_point n (λ p. test (false ∷ p)) ≡ some_point n (λ p. other (false ∷ p)) = some_point_same n _ _ (λ p d. h (false ∷ p) (ap suc d)) in
    let high : some_point n (λ p. test (true ∷ p)) ≡ some_point n (λ p. other (true ∷ p)) = some_point_same n _ _ (λ p d. h (true ∷ p) (ap suc d)) in
    rw (low, high) refl

pub has_point_found : (test : List Bool → Bool) (row : List (Option Bool)) → has_point test row ≡ true → PointOf test row
unfolding has_point
has_point_found test row h =
    let (p, d, t) = some_point_found (length row) (λ p. matches row p && test p) h in
    record { point = p; wide = d; within = and_left _ _ t; holds = and_right (matches row p) (test p) t }

pub has_point_at : (test : List Bool → Bool) (row : List (Option Bool)) → PointOf test row → has_point test row ≡ true
unfolding has_point
has_point_at test row h = some_point_at (length row) (λ p. matches row p && test p) h.point h.wide (and_from _ _ h.within h.holds)

pub has_point_is_point : (test : List Bool → Bool) (row : List (Option Bool)) → has_point test row ≡ true ↔ PointOf test row
has_point_is_point test row = (has_point_found test row, has_point_at test row)

-- where no point of a row has a test
pub no_point_at : (test : List Bool → Bool) (row : List (Option Bool)) (p : List Bool) → has_point test row ≡ false → IsPoint (length row) p → matches row p ≡ true → test p ≡ false
no_point_at test row p h d m = cases (bool_cases (test p))
  where
    cases : (test p ≡ true) ⊎ (test p ≡ false) → test p ≡ false
    cases (inl t) =
        let there : has_point test row ≡ true = has_point_at test row (record { point = p; wide = d; within = m; holds = t }) in
        let clash : true ≡ false = sym there ∙ h in absurd cc
    cases (inr t) = t

pub no_point_of : (test : List Bool → Bool) (row : List (Option Bool)) → ((p : List Bool) → IsPoint (length row) p → matches row p ≡ true → test p ≡ false) → has_point test row ≡ false
no_point_of test row h = cases (bool_cases (has_point test row))
  where
    cases : (has_point test row ≡ true) ⊎ (has_point test row ≡ false) → has_point test row ≡ false
    cases (inl t) =
        let there : PointOf test row = has_point_found test row t in
        let clash : true ≡ false = sym there.holds ∙ h there.point there.wide there.within in absurd cc
    cases (inr t) = t

-- tests that are the same at each point that a row has
pub has_point_same : (test other : List Bool → Bool) (row : List (Option Bool)) → ((p : List Bool) → IsPoint (length row) p → matches row p ≡ true → test p ≡ other p) → has_point test row ≡ has_point other row
unfolding has_point
has_point_same test other row h = some_point_same (length row) _ _ (λ p d. cases p d (matches row p) refl)
  where
    cases : (p : List Bool) → IsPoint (length row) p → (m : Bool) → matches row p ≡ m → (m && test p) ≡ (m && other p)
    cases p d true m = h p d m
    cases p d false m = refl

-- a row that has the points of another
pub has_point_wider : (test : List Bool → Bool) (row wide : List (Option Bool)) → length wide ≡ length row → ((p : List Bool) → matches row p ≡ true → matches wide p ≡ true) → has_point test row ≡ true → has_point test wide ≡ true
has_point_wider test row wide e h t =
    let found : PointOf test row = has_point_found test row t in
    has_point_at test wide (record { point = found.point; wide = found.wide ∙ sym e; within = h found.point found.within; holds = found.holds })

-- a weaker test
pub has_point_weaker : (test other : List Bool → Bool) (row : List (Option Bool)) → ((p : List Bool) → test p ≡ true → other p ≡ true) → has_point test row ≡ true → has_point other row ≡ true
has_point_weaker test other row h t =
    let found : PointOf test row = has_point_found test row t in
    has_point_at other row (record { point = found.point; wide = found.wide; within = found.within; holds = h found.point found.holds })

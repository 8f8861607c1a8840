-- Whether a test holds at some point of a row: the two halves at a dash, and a row that has one point.
use Rattle.std.proofs.Common.{◌≡◌, ℕ, ◌<◌, zero, suc, Bool, true, false, not, ◌&&◌, ◌||◌, Option, Some, None, List, [], ◌∷◌, length, get_or, set, refl, sym, ap, ◌∙◌, arith}
use Rattle.std.proofs.Math.Bool.{and-false, or-false, or_comm}
use Rattle.std.proofs.lemmas.Bool.{or_left, or_right, and_from}
use Rattle.sis_base.specs.Rows.{agrees, matches}
use Rattle.cube_cover.specs.Literals.{no_dash}
use Rattle.cube_cover.proofs.Points.{and_left, and_right}
use Rattle.cube_cover.proofs.Products.{point_of, length-point_of, matches-point_of}
use Rattle.cover_min.specs.Points.{some_point, has_point}
use Rattle.cover_search.specs.Searches.{SameWithin}
use Rattle.cover_search.proofs.Satisfying.{same_bit}

some_point_same : (n : ℕ) (test other : List Bool → Bool) → ((point : List Bool) → length point ≡ n → test point ≡ other point) → some_point n test ≡ some_point n other
unfolding some_point
some_point_same zero test other h = h [] refl
some_point_same (suc n) test other h =
    let low : some_point n (λ p. test (false ∷ p)) ≡ some_point n (λ p. other (false ∷ p)) = some_point_same n (λ p. test (false ∷ p)) (λ p. other (false ∷ p)) (λ p e. h (false ∷ p) (ap suc e)) in
    let high : some_point n (λ p. test (true ∷ p)) ≡ some_point n (λ p. other (true ∷ p)) = some_point_same n (λ p. test (true ∷ p)) (λ p. other (true ∷ p)) (λ p e. h (true ∷ p) (ap suc e)) in
    rw (low, high) refl

some_point_false : (n : ℕ) → some_point n (λ p. false) ≡ false
unfolding some_point
some_point_false zero = refl
some_point_false (suc n) = rw (some_point_false n) refl

some_point_none : (n : ℕ) (test : List Bool → Bool) → ((point : List Bool) → length point ≡ n → test point ≡ false) → some_point n test ≡ false
some_point_none n test h = some_point_same n test (λ p. false) h ∙ some_point_false n

some_point_at : (n : ℕ) (test : List Bool → Bool) (point : List Bool) → length point ≡ n → test point ≡ true → some_point n test ≡ true
unfolding some_point
some_point_at zero test [] e h = h
some_point_at zero test (b ∷ bs) e h = absurd (omega arith)
some_point_at (suc n) test [] e h = absurd (omega arith)
some_point_at (suc n) test (false ∷ bs) e h = or_left _ _ (some_point_at n (λ p. test (false ∷ p)) bs (omega arith) h)
some_point_at (suc n) test (true ∷ bs) e h = or_right _ _ (some_point_at n (λ p. test (true ∷ p)) bs (omega arith) h)

-- tests that are the same at the points of a row
pub has_point_same : (row : List (Option Bool)) (test other : List Bool → Bool) → SameWithin row test other → has_point test row ≡ has_point other row
unfolding has_point
has_point_same row test other h = some_point_same (length row) (λ p. matches row p && test p) (λ p. matches row p && other p) (λ p e. cases p e (matches row p) refl)
  where
    cases : (p : List Bool) → length p ≡ length row → (t : Bool) → matches row p ≡ t → (matches row p && test p) ≡ (matches row p && other p)
    cases p e true m = rw (m, h.same p e m) refl
    cases p e false m = rw m refl

pub has_point_none : (row : List (Option Bool)) (test : List Bool → Bool) → SameWithin row test (λ p. false) → has_point test row ≡ false
unfolding has_point
has_point_none row test h = has_point_same row test (λ p. false) h ∙ some_point_none (length row) (λ p. matches row p && false) (λ p e. and-false (matches row p))

pub has_point_at : (row : List (Option Bool)) (test : List Bool → Bool) → test (point_of row) ≡ true → has_point test row ≡ true
unfolding has_point
has_point_at row test h = some_point_at (length row) (λ p. matches row p && test p) (point_of row) (length-point_of row) (and_from _ _ (matches-point_of row) h)

-- a row without a dash has one point
pub one_point : (row : List (Option Bool)) (point : List Bool) → no_dash row ≡ true → length point ≡ length row → matches row point ≡ true → point ≡ point_of row
unfolding no_dash matches point_of
one_point [] [] n e m = refl
one_point [] (b ∷ bs) n e m = absurd (omega arith)
one_point (l ∷ ls) [] n e m = absurd (omega arith)
one_point (None ∷ ls) (b ∷ bs) n e m = cc
one_point (Some bit ∷ ls) (b ∷ bs) n e m =
    let first : b ≡ bit = same_bit bit b (and_left _ _ m) in
    let rest : bs ≡ point_of ls = one_point ls bs n (omega arith) (and_right (agrees (Some bit) b) _ m) in
    rw (first, rest) refl

pub has_point_full : (row : List (Option Bool)) (test : List Bool → Bool) → no_dash row ≡ true → has_point test row ≡ test (point_of row)
has_point_full row test n = cases (test (point_of row)) refl
  where
    cases : (t : Bool) → test (point_of row) ≡ t → has_point test row ≡ test (point_of row)
    cases true h = has_point_at row test h ∙ sym h
    cases false h = has_point_none row test (record { same = λ p e m. ap test (one_point row p n e m) ∙ h }) ∙ sym h

or_crossed : (a b c d : Bool) → ((a || b) || (c || d)) ≡ ((a || c) || (b || d))
or_crossed true b c d = refl
or_crossed false true true d = refl
or_crossed false true false d = refl
or_crossed false false c d = refl

low_half : (ls : List (Option Bool)) (test : List Bool → Bool) → has_point test (Some false ∷ ls) ≡ has_point (λ p. test (false ∷ p)) ls
unfolding has_point some_point matches
low_half ls test =
    let high : some_point (length ls) (λ p. false) ≡ false = some_point_false (length ls) in
    ap (λ (x : Bool). some_point (length ls) (λ p. matches ls p && test (false ∷ p)) || x) high ∙ or-false _

high_half : (ls : List (Option Bool)) (test : List Bool → Bool) → has_point test (Some true ∷ ls) ≡ has_point (λ p. test (true ∷ p)) ls
unfolding has_point some_point matches
high_half ls test =
    let low : some_point (length ls) (λ p. false) ≡ false = some_point_false (length ls) in
    ap (λ (x : Bool). x || some_point (length ls) (λ p. matches ls p && test (true ∷ p))) low

both_halves : (ls : List (Option Bool)) (test : List Bool → Bool) → has_point test (None ∷ ls) ≡ (has_point (λ p. test (false ∷ p)) ls || has_point (λ p. test (true ∷ p)) ls)
unfolding has_point some_point matches
both_halves ls test = refl

low_and_high : (row : List (Option Bool)) (test : List Bool → Bool) (place : ℕ) → place < length row → get_or row place None ≡ None
    → has_point test row ≡ (has_point test (set row place (Some false)) || has_point test (set row place (Some true)))
low_and_high [] test place lt e = absurd (omega arith)
low_and_high (l ∷ ls) test zero lt e = rw e (both_halves ls test ∙ rw (low_half ls test, high_half ls test) refl)
low_and_high (None ∷ ls) test (suc i) lt e =
    let low = low_and_high ls (λ p. test (false ∷ p)) i (omega arith) e in
    let high = low_and_high ls (λ p. test (true ∷ p)) i (omega arith) e in
    both_halves ls test ∙ rw (both_halves (set ls i (Some false)) test, both_halves (set ls i (Some true)) test, low, high) (or_crossed (has_point (λ p. test (false ∷ p)) (set ls i (Some false))) (has_point (λ p. test (false ∷ p)) (set ls i (Some true))) (has_point (λ p. test (true ∷ p)) (set ls i (Some false))) (has_point (λ p. test (true ∷ p)) (set ls i (Some true))))
low_and_high (Some false ∷ ls) test (suc i) lt e =
    let low = low_and_high ls (λ p. test (false ∷ p)) i (omega arith) e in
    low_half ls test ∙ rw (low_half (set ls i (Some false)) test, low_half (set ls i (Some true)) test) low
low_and_high (Some true ∷ ls) test (suc i) lt e =
    let high = low_and_high ls (λ p. test (true ∷ p)) i (omega arith) e in
    high_half ls test ∙ rw (high_half (set ls i (Some false)) test, high_half (set ls i (Some true)) test) high

-- the halves in either order
pub has_point_halves : (row : List (Option Bool)) (test : List Bool → Bool) (place : ℕ) (bit : Bool) → place < length row → get_or row place None ≡ None
    → has_point test row ≡ (has_point test (set row place (Some bit)) || has_point test (set row place (Some (not bit))))
has_point_halves row test place false lt e = low_and_high row test place lt e
has_point_halves row test place true lt e = low_and_high row test place lt e ∙ or_comm (has_point test (set row place (Some false))) (has_point test (set row place (Some true)))

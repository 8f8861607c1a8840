-- What rows and covers match, point by point: the facts that crates above may cite.
use Rattle.std.proofs.Common.{◌≡◌, ℕ, ◌<◌, zero, suc, Bool, true, false, ◌&&◌, ◌||◌, if◌then◌else◌, Option, None, List, [], ◌∷◌, ◌++◌, length, get_or, set, map, refl, ap, ◌∙◌, arith}
use Rattle.std.proofs.Common.{inl, inr, ◌⊎◌}
use Rattle.std.proofs.Math.Bool.{and-false}
use Rattle.std.proofs.lemmas.List.{length-set}
use Rattle.sis_base.specs.Rows.{agrees, matches, some_matches, HasWidth}
use Rattle.cube_cover.specs.Covers.{cofactor_rows}

pub and_left : (x y : Bool) → (x && y) ≡ true → x ≡ true
and_left true y h = refl
and_left false y h = h

pub and_right : (x y : Bool) → (x && y) ≡ true → y ≡ true
and_right true y h = h
and_right false y h = cc

pub bool_cases : (b : Bool) → (b ≡ true) ⊎ (b ≡ false)
bool_cases true = inl refl
bool_cases false = inr refl

-- a row without its literal in a column, if the literal agrees with a bit
pub matches-cofactor : (row : List (Option Bool)) (point : List Bool) (i : ℕ) (b : Bool) → i < length row → length point ≡ length row
    → agrees (get_or row i None) b ≡ true → matches (set row i None) point ≡ matches row (set point i b)
unfolding matches
matches-cofactor [] point i b h e a = absurd (omega arith)
matches-cofactor (l ∷ ls) [] i b h e a = absurd (omega arith)
matches-cofactor (l ∷ ls) (c ∷ cs) zero b h e a = rw a refl
matches-cofactor (l ∷ ls) (c ∷ cs) (suc i) b h e a = ap (λ (x : Bool). agrees l c && x) (matches-cofactor ls cs i b (omega arith) (omega arith) a)

-- a row whose literal in a column does not agree with the point's bit there
pub matches-other : (row : List (Option Bool)) (point : List Bool) (i : ℕ) (b : Bool) → i < length row → length point ≡ length row
    → agrees (get_or row i None) b ≡ false → matches row (set point i b) ≡ false
unfolding matches
matches-other [] point i b h e a = absurd (omega arith)
matches-other (l ∷ ls) [] i b h e a = absurd (omega arith)
matches-other (l ∷ ls) (c ∷ cs) zero b h e a = rw a refl
matches-other (l ∷ ls) (c ∷ cs) (suc i) b h e a = rw (matches-other ls cs i b (omega arith) (omega arith) a) (and-false (agrees l c))

-- the value of a cofactor is the value with the bit set in its column
pub value-cofactor : (w : ℕ) (rows : List (List (Option Bool))) (point : List Bool) (i : ℕ) (b : Bool) → HasWidth w rows → i < w → length point ≡ w
    → some_matches (cofactor_rows i b rows) point ≡ some_matches rows (set point i b)
unfolding some_matches cofactor_rows HasWidth
value-cofactor w [] point i b h lt e = refl
value-cofactor w (row ∷ rows) point i b h lt e =
    cases (agrees (get_or row i None) b) refl (value-cofactor w rows point i b h.1 lt e)
  where
    cases : (t : Bool) → agrees (get_or row i None) b ≡ t → some_matches (cofactor_rows i b rows) point ≡ some_matches rows (set point i b)
        → some_matches (if t then set row i None ∷ cofactor_rows i b rows else cofactor_rows i b rows) point ≡ (matches row (set point i b) || some_matches rows (set point i b))
    cases true a rest = rw (matches-cofactor row point i b (omega (arith, h.0)) (omega (arith, h.0)) a, rest) refl
    cases false a rest = rw (matches-other row point i b (omega (arith, h.0)) (omega (arith, h.0)) a) rest

pub HasWidth-cofactor : (w : ℕ) (rows : List (List (Option Bool))) (i : ℕ) (b : Bool) → HasWidth w rows → HasWidth w (cofactor_rows i b rows)
unfolding cofactor_rows HasWidth
HasWidth-cofactor w [] i b h = tt
HasWidth-cofactor w (row ∷ rows) i b h = cases (agrees (get_or row i None) b) (HasWidth-cofactor w rows i b h.1)
  where
    cases : (t : Bool) → HasWidth w (cofactor_rows i b rows) → HasWidth w (if t then set row i None ∷ cofactor_rows i b rows else cofactor_rows i b rows)
    cases true rest = (length-set row i None ∙ h.0, rest)
    cases false rest = rest

pub HasWidth-push : (w : ℕ) (rows : List (List (Option Bool))) (row : List (Option Bool)) → HasWidth w rows → length row ≡ w → HasWidth w (rows ++ row ∷ [])
unfolding HasWidth
HasWidth-push w [] row h e = (e, tt)
HasWidth-push w (first ∷ rows) row h e = (h.0, HasWidth-push w rows row h.1 e)

pub HasWidth-append : (w : ℕ) (rows others : List (List (Option Bool))) → HasWidth w rows → HasWidth w others → HasWidth w (rows ++ others)
unfolding HasWidth
HasWidth-append w [] others h k = k
HasWidth-append w (first ∷ rows) others h k = (h.0, HasWidth-append w rows others h.1 k)

-- a row among those of a width
pub width_at : (w : ℕ) (rows : List (List (Option Bool))) (i : ℕ) (row : List (Option Bool)) → HasWidth w rows → i < length rows → row ≡ get_or rows i row → length row ≡ w
unfolding HasWidth
width_at w [] i row h lt e = absurd (omega arith)
width_at w (first ∷ rows) zero row h lt e = ap length e ∙ h.0
width_at w (first ∷ rows) (suc i) row h lt e = width_at w rows i row h.1 (omega arith) e

pub value-append : (rows others : List (List (Option Bool))) (point : List Bool) → some_matches (rows ++ others) point ≡ (some_matches rows point || some_matches others point)
unfolding some_matches
value-append [] others point = refl
value-append (row ∷ rows) others point = cases (matches row point) (value-append rows others point)
  where
    cases : (t : Bool) → some_matches (rows ++ others) point ≡ (some_matches rows point || some_matches others point) → (t || some_matches (rows ++ others) point) ≡ ((t || some_matches rows point) || some_matches others point)
    cases true rest = refl
    cases false rest = rest

-- the width of a row that was read from a list of rows
pub width_read : {X : Type 0} (f : X → List (Option Bool)) (w : ℕ) (rows : List X) (i : ℕ) (row : X) → HasWidth w (map f rows) → i < length rows → row ≡ get_or rows i row → length (f row) ≡ w
unfolding HasWidth
width_read f w [] i row h lt e = absurd (omega arith)
width_read f w (first ∷ rows) zero row h lt e = ap (λ x. length (f x)) e ∙ h.0
width_read f w (first ∷ rows) (suc i) row h lt e = width_read f w rows i row h.1 (omega arith) e

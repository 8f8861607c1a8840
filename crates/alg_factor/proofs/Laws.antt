-- Laws of factored forms: each expands to the rows, saves literals exactly if one is shared, and is
-- the only one.
use Rattle.std.proofs.Common.{◌≡◌, ℕ, ◌+◌, ◌<◌, ◌≤◌, zero, suc, Bool, true, false, if◌then◌else◌, Option, Some, None, List, [], ◌∷◌, ◌++◌, get_or, set, refl, sym, ap, ◌∙◌, arith, ◌↔◌}
use Rattle.std.proofs.lemmas.List.{length-set}
use Rattle.std.specs.List.Sorted.{IsPermutation}
use Rattle.std.proofs.lemmas.List.Sorted.{IsPermutation-refl, IsPermutation-trans, IsPermutation-append, IsPermutation-map, IsPermutation-middle, IsPermutation-sym}
use Rattle.sis_base.specs.Rows.{HasWidth}
use Rattle.cube_cover.specs.Literals.{has_literal, literal_number, row_literals, cover_literals, literal_count, literal_occurrences}
use Rattle.alg_factor.specs.Forms.{Form, Sum, Split, with_literal, no_literal, rank, IsChosen, NoneShared, SomeShared, IsFactored, put_literal, expansion_of, form_literals}

-- a literal counts once where it occurs
pub count_literal : (b : Bool) (x : Option Bool) → has_literal x b ≡ true → literal_count b x ≡ 1
count_literal b None h = cc
count_literal true (Some true) h = refl
count_literal true (Some false) h = cc
count_literal false (Some true) h = cc
count_literal false (Some false) h = refl

pub count_other : (b : Bool) (x : Option Bool) → has_literal x b ≡ false → literal_count b x ≡ 0
count_other b None h = refl
count_other true (Some true) h = cc
count_other true (Some false) h = refl
count_other false (Some true) h = refl
count_other false (Some false) h = cc

pub literal_is : (b : Bool) (x : Option Bool) → has_literal x b ≡ true → x ≡ Some b
literal_is b None h = cc
literal_is true (Some true) h = refl
literal_is true (Some false) h = cc
literal_is false (Some true) h = cc
literal_is false (Some false) h = refl

-- a row without its literal, and with it again
pub set-back : (row : List (Option Bool)) (i : ℕ) (b : Bool) → get_or row i None ≡ Some b → set (set row i None) i (Some b) ≡ row
set-back [] i b h = refl
set-back (x ∷ xs) zero b h = ap (λ (y : Option Bool). y ∷ xs) (sym h)
set-back (x ∷ xs) (suc i) b h = ap (λ (ys : List (Option Bool)). x ∷ ys) (set-back xs i b h)

-- a row has one literal more than without it
pub literals-set : (row : List (Option Bool)) (i : ℕ) (b : Bool) → get_or row i None ≡ Some b → row_literals row ≡ 1 + row_literals (set row i None)
unfolding row_literals
literals-set [] i b h = cc
literals-set (x ∷ xs) zero b h = let e : literal_number x ≡ 1 = ap literal_number h in omega arith
literals-set (x ∷ xs) (suc i) b h = omega (arith, literals-set xs i b h)

-- the two parts of rows, the first with its literal restored, are the rows in some order
pub parts : (i : ℕ) (b : Bool) (rows : List (List (Option Bool))) → IsPermutation rows (put_literal i b (with_literal i b rows) ++ no_literal i b rows)
unfolding with_literal no_literal
parts i b [] = IsPermutation-refl []
parts i b (row ∷ rows) = cases (has_literal (get_or row i None) b) refl (parts i b rows)
  where
    tail : List (List (Option Bool))
    tail = put_literal i b (with_literal i b rows) ++ no_literal i b rows

    cases : (t : Bool) → has_literal (get_or row i None) b ≡ t → IsPermutation rows (put_literal i b (with_literal i b rows) ++ no_literal i b rows)
        → IsPermutation (row ∷ rows) (put_literal i b (if t then set row i None ∷ with_literal i b rows else with_literal i b rows) ++ (if t then no_literal i b rows else row ∷ no_literal i b rows))
    cases true e rest =
        rw (set-back row i b (literal_is b _ e)) (IsPermutation-append (row ∷ []) (row ∷ []) _ _ (IsPermutation-refl (row ∷ [])) rest)
    cases false e rest =
        IsPermutation-trans (row ∷ rows) (row ∷ (put_literal i b (with_literal i b rows) ++ no_literal i b rows)) _
        (IsPermutation-append (row ∷ []) (row ∷ []) _ _ (IsPermutation-refl (row ∷ [])) rest)
        (IsPermutation-sym _ _ (IsPermutation-middle (put_literal i b (with_literal i b rows)) row (no_literal i b rows)))

-- and their literals are those of both parts, and the one that was removed from each row of the
-- first
pub literals-parts : (i : ℕ) (b : Bool) (rows : List (List (Option Bool))) → cover_literals rows ≡ literal_occurrences i b rows + cover_literals (with_literal i b rows) + cover_literals (no_literal i b rows)
unfolding with_literal no_literal literal_occurrences cover_literals
literals-parts i b [] = refl
literals-parts i b (row ∷ rows) = cases (has_literal (get_or row i None) b) refl (literals-parts i b rows)
  where
    cases : (t : Bool) → has_literal (get_or row i None) b ≡ t → cover_literals rows ≡ literal_occurrences i b rows + cover_literals (with_literal i b rows) + cover_literals (no_literal i b rows)
        → row_literals row + cover_literals rows ≡ (literal_count b (get_or row i None) + literal_occurrences i b rows) + cover_literals (if t then set row i None ∷ with_literal i b rows else with_literal i b rows) + cover_literals (if t then no_literal i b rows else row ∷ no_literal i b rows)
    cases true e rest = omega (arith, count_literal b _ e, literals-set row i b (literal_is b _ e))
    cases false e rest = omega (arith, count_other b _ e)

pub expansion_of-rows : (rows : List (List (Option Bool))) (f : Form) → IsFactored rows f → IsPermutation rows (expansion_of f)
unfolding IsFactored expansion_of
expansion_of-rows rows (Sum sum) h = rw h.0 (IsPermutation-refl rows)
expansion_of-rows rows (Split i b q r) h =
    IsPermutation-trans _ _ _ (parts i b rows)
    (IsPermutation-append _ _ _ _ (IsPermutation-map (λ row. set row i (Some b)) _ _ (expansion_of-rows (with_literal i b rows) q h.1)) (expansion_of-rows (no_literal i b rows) r h.2))

-- never more literals than the rows have
pub literals-most : (rows : List (List (Option Bool))) (f : Form) → IsFactored rows f → form_literals f ≤ cover_literals rows
unfolding IsFactored form_literals
literals-most rows (Sum sum) h = rw h.0 (omega arith)
literals-most rows (Split i b q r) h =
    omega (arith, literals-parts i b rows, h.0.two, literals-most (with_literal i b rows) q h.1, literals-most (no_literal i b rows) r h.2)

pub fewer_where : (rows : List (List (Option Bool))) (f : Form) → IsFactored rows f → form_literals f < cover_literals rows ↔ SomeShared rows
unfolding IsFactored form_literals
fewer_where rows (Sum sum) h =
    (λ less. absurd (omega (arith, ap cover_literals h.0)), λ (i, b, two). absurd (omega (arith, h.1 i b)))
fewer_where rows (Split i b q r) h =
    (λ less. (i, b, h.0.two), λ some. omega (arith, literals-parts i b rows, h.0.two, literals-most (with_literal i b rows) q h.1, literals-most (no_literal i b rows) r h.2))

pub equal_where : (rows : List (List (Option Bool))) (f : Form) → IsFactored rows f → NoneShared rows → form_literals f ≡ cover_literals rows
unfolding IsFactored form_literals
equal_where rows (Sum sum) h none = ap cover_literals h.0
equal_where rows (Split i b q r) h none = absurd (omega (arith, h.0.two, none i b))

-- ranks distinguish literals
pub rank-one : (i j : ℕ) (b d : Bool) → rank i b ≡ rank j d → (i ≡ j) × (b ≡ d)
rank-one i j false false h = (omega arith, refl)
rank-one i j true true h = (omega arith, refl)
rank-one i j false true h = absurd (omega arith)
rank-one i j true false h = absurd (omega arith)

pub chosen-one : (rows : List (List (Option Bool))) (i j : ℕ) (b d : Bool) → IsChosen i b rows → IsChosen j d rows → (i ≡ j) × (b ≡ d)
chosen-one rows i j b d h k =
    let low : ¬ (rank i b < rank j d) = λ less. absurd (omega (arith, k.first i b less, h.most j d)) in
    let high : ¬ (rank j d < rank i b) = λ less. absurd (omega (arith, h.first j d less, k.most i b)) in
    rank-one i j b d (omega arith)

-- no other form is the factored form of the rows
pub factored-one : (rows : List (List (Option Bool))) (f g : Form) → IsFactored rows f → IsFactored rows g → f ≡ g
unfolding IsFactored
factored-one rows (Sum xs) (Sum ys) h k = ap Sum (h.0 ∙ sym k.0)
factored-one rows (Sum xs) (Split i b q r) h k = absurd (omega (arith, h.1 i b, k.0.two))
factored-one rows (Split i b q r) (Sum xs) h k = absurd (omega (arith, k.1 i b, h.0.two))
factored-one rows (Split i b q r) (Split j d s t) h k =
    let one : (i ≡ j) × (b ≡ d) = chosen-one rows i j b d h.0 k.0 in
    let first : IsFactored (with_literal i b rows) s = rw (one.0, one.1) k.1 in
    let second : IsFactored (no_literal i b rows) t = rw (one.0, one.1) k.2 in
    let quotients : q ≡ s = factored-one (with_literal i b rows) q s h.1 first in
    let rests : r ≡ t = factored-one (no_literal i b rows) r t h.2 second in
    rw (one.0, one.1, quotients, rests) refl

-- parts of rows of a width
pub HasWidth-with : (w i : ℕ) (b : Bool) (rows : List (List (Option Bool))) → HasWidth w rows → HasWidth w (with_literal i b rows)
unfolding HasWidth with_literal
HasWidth-with w i b [] h = tt
HasWidth-with w i b (row ∷ rows) h = cases (has_literal (get_or row i None) b) (HasWidth-with w i b rows h.1)
  where
    cases : (t : Bool) → HasWidth w (with_literal i b rows) → HasWidth w (if t then set row i None ∷ with_literal i b rows else with_literal i b rows)
    cases true rest = (length-set row i None ∙ h.0, rest)
    cases false rest = rest

pub HasWidth-no : (w i : ℕ) (b : Bool) (rows : List (List (Option Bool))) → HasWidth w rows → HasWidth w (no_literal i b rows)
unfolding HasWidth no_literal
HasWidth-no w i b [] h = tt
HasWidth-no w i b (row ∷ rows) h = cases (has_literal (get_or row i None) b) (HasWidth-no w i b rows h.1)
  where
    cases : (t : Bool) → HasWidth w (no_literal i b rows) → HasWidth w (if t then no_literal i b rows else row ∷ no_literal i b rows)
    cases true rest = rest
    cases false rest = (h.0, rest)

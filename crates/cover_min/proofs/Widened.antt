-- Rows whose literals were removed where possible.
use Rattle.std.proofs.Common.{◌≡◌, ℕ, ◌<◌, ◌≤◌, zero, suc, Bool, true, false, not, ◌||◌, if◌then◌else◌, Option, Some, None, is_some, List, [], ◌∷◌, length, get_or, set, map, refl, sym, ap, ◌∙◌, subst, ◌⊎◌, inl, inr, arith}
use Rattle.std.proofs.lemmas.List.{length-set, set-set, set-get_or, get_or-set_other}
use Rattle.std.proofs.lemmas.Bool.{cases_eq, or_right, and_from}
use Rattle.sis_base.specs.Rows.{agrees, matches, some_matches, HasWidth, IsPoint}
use Rattle.cube_cover.proofs.Points.{and_right, and_left}
use Rattle.cover_min.specs.Points.{has_point}
use Rattle.cover_min.specs.Minimum.{Meaning, widened_at, widened_to, widened}
use Rattle.cover_min.specs.Primes.{IsPrime}
use Rattle.cover_min.proofs.Points.{has_point_found, has_point_at, has_point_wider, has_point_same}

-- a row without a literal has the points that it had
pub matches_without : (row : List (Option Bool)) (i : ℕ) (p : List Bool) → matches row p ≡ true → matches (set row i None) p ≡ true
unfolding matches
matches_without [] i p h = h
matches_without (l ∷ ls) zero [] h = refl
matches_without (l ∷ ls) (suc i) [] h = refl
matches_without (l ∷ ls) zero (b ∷ bs) h = and_right (agrees l b) (matches ls bs) h
matches_without (l ∷ ls) (suc i) (b ∷ bs) h = and_from _ _ (and_left _ _ h) (matches_without ls i bs (and_right (agrees l b) _ h))

pub matches_without_both : (row : List (Option Bool)) (i j : ℕ) (p : List Bool) → matches (set row i None) p ≡ true → matches (set (set row j None) i None) p ≡ true
unfolding matches
matches_without_both [] i j p h = h
matches_without_both (l ∷ ls) zero zero p h = h
matches_without_both (l ∷ ls) zero (suc j) [] h = refl
matches_without_both (l ∷ ls) (suc i) zero [] h = refl
matches_without_both (l ∷ ls) (suc i) (suc j) [] h = refl
matches_without_both (l ∷ ls) zero (suc j) (b ∷ bs) h = matches_without ls j bs h
matches_without_both (l ∷ ls) (suc i) zero (b ∷ bs) h = and_right (agrees l b) _ h
matches_without_both (l ∷ ls) (suc i) (suc j) (b ∷ bs) h = and_from _ _ (and_left _ _ h) (matches_without_both ls i j bs (and_right (agrees l b) _ h))

pub get_without : (row : List (Option Bool)) (i : ℕ) → get_or (set row i None) i None ≡ None
get_without [] i = refl
get_without (l ∷ ls) zero = refl
get_without (l ∷ ls) (suc i) = get_without ls i

-- a dash is left as it is
pub without_dash : (row : List (Option Bool)) (i : ℕ) → get_or row i None ≡ None → set row i None ≡ row
without_dash row i e = ap (set row i) (sym e) ∙ set-get_or row i None

pub length-widened_at : (off : List Bool → Bool) (row : List (Option Bool)) (i : ℕ) → length (widened_at off row i) ≡ length row
unfolding widened_at
length-widened_at off row i = cases (has_point off (set row i None))
  where
    cases : (t : Bool) → length (if t then row else set row i None) ≡ length row
    cases true = refl
    cases false = length-set row i None

pub length-widened_to : (off : List Bool → Bool) (row : List (Option Bool)) (n : ℕ) → length (widened_to off row n) ≡ length row
unfolding widened_to
length-widened_to off row zero = refl
length-widened_to off row (suc n) = length-widened_at off (widened_to off row n) n ∙ length-widened_to off row n

pub widened_at_dash : (off : List Bool → Bool) (row : List (Option Bool)) (i : ℕ) → get_or row i None ≡ None → widened_at off row i ≡ row
unfolding widened_at
widened_at_dash off row i e = cases (has_point off (set row i None))
  where
    cases : (t : Bool) → (if t then row else set row i None) ≡ row
    cases true = refl
    cases false = without_dash row i e

pub widened_dash : (off : List Bool → Bool) (row : List (Option Bool)) (i : ℕ) (literal : Option Bool) (none : Bool) → literal ≡ get_or row i None → is_some literal ≡ not none → none ≡ true → row ≡ widened_at off row i
widened_dash off row i None none e s n = sym (widened_at_dash off row i (sym e))
widened_dash off row i (Some bit) true e s n = cc
widened_dash off row i (Some bit) false e s n = cc

-- a literal that was removed and stays away
pub widened_goes : (off : List Bool → Bool) (row without : List (Option Bool)) (i : ℕ) → without ≡ set row i None → has_point off without ≡ false → without ≡ widened_at off row i
unfolding widened_at
widened_goes off row without i e h =
    let test : has_point off (set row i None) ≡ false = ap (has_point off) (sym e) ∙ h in
    rw test e

-- a literal that was set again
pub widened_stays : (off : List Bool → Bool) (row without back : List (Option Bool)) (i : ℕ) (literal : Option Bool)
    → without ≡ set row i None → literal ≡ get_or row i None → has_point off without ≡ true → back ≡ set without i literal → back ≡ widened_at off row i
unfolding widened_at
widened_stays off row without back i literal e l h b =
    let test : has_point off (set row i None) ≡ true = ap (has_point off) (sym e) ∙ h in
    let same : set (set row i None) i (get_or row i None) ≡ row = set-set row i None (get_or row i None) ∙ set-get_or row i None in
    let whole : back ≡ row = b ∙ ap (λ (x : List (Option Bool)). set x i literal) e ∙ ap (set (set row i None) i) l ∙ same in
    rw test whole

-- it has the points that it had
pub matches-widened_to : (off : List Bool → Bool) (row : List (Option Bool)) (n : ℕ) (p : List Bool) → matches row p ≡ true → matches (widened_to off row n) p ≡ true
unfolding widened_to widened_at
matches-widened_to off row zero p h = h
matches-widened_to off row (suc n) p h = cases (has_point off (set (widened_to off row n) n None)) (matches-widened_to off row n p h)
  where
    cases : (t : Bool) → matches (widened_to off row n) p ≡ true → matches (if t then widened_to off row n else set (widened_to off row n) n None) p ≡ true
    cases true k = k
    cases false k = matches_without (widened_to off row n) n p k

-- and no point at which the function must be 0, where it had none
pub off-widened_to : (off : List Bool → Bool) (row : List (Option Bool)) (n : ℕ) → has_point off row ≡ false → has_point off (widened_to off row n) ≡ false
unfolding widened_to widened_at
off-widened_to off row zero h = h
off-widened_to off row (suc n) h = cases (has_point off (set (widened_to off row n) n None)) refl (off-widened_to off row n h)
  where
    cases : (t : Bool) → has_point off (set (widened_to off row n) n None) ≡ t → has_point off (widened_to off row n) ≡ false → has_point off (if t then widened_to off row n else set (widened_to off row n) n None) ≡ false
    cases true e k = k
    cases false e k = e

-- a column that was not reached is as it was
pub later-widened_to : (off : List Bool → Bool) (row : List (Option Bool)) (n i : ℕ) → n ≤ i → get_or (widened_to off row n) i None ≡ get_or row i None
unfolding widened_to widened_at
later-widened_to off row zero i h = refl
later-widened_to off row (suc n) i h = cases (has_point off (set (widened_to off row n) n None)) (later-widened_to off row n i (omega (arith, h)))
  where
    cases : (t : Bool) → get_or (widened_to off row n) i None ≡ get_or row i None → get_or (if t then widened_to off row n else set (widened_to off row n) n None) i None ≡ get_or row i None
    cases true k = k
    cases false k = get_or-set_other (widened_to off row n) n i None None (λ e. omega (arith, e, h)) ∙ k

-- a literal that is left in one of the first columns is needed
pub needed-widened_to : (off : List Bool → Bool) (row : List (Option Bool)) (n i : ℕ) (b : Bool) → i < n → get_or (widened_to off row n) i None ≡ Some b → has_point off (set (widened_to off row n) i None) ≡ true
unfolding widened_to widened_at
needed-widened_to off row zero i b lt e = absurd (omega (arith, lt))
needed-widened_to off row (suc n) i b lt e =
    cases (has_point off (set w n None)) refl e (λ k. needed-widened_to off row n i b k)
  where
    w : List (Option Bool)
    w = widened_to off row n

    dropped : (i ≡ n) ⊎ (i ≡ n → ⊥) → get_or (set w n None) i None ≡ Some b → (i < n → get_or w i None ≡ Some b → has_point off (set w i None) ≡ true) → has_point off (set (set w n None) i None) ≡ true
    dropped (inl same) e rest =
        let there : get_or (set w n None) n None ≡ Some b = subst (λ (k : ℕ). get_or (set w n None) k None ≡ Some b) same e in
        let clash : None ≡ Some b = sym (get_without w n) ∙ there in absurd cc
    dropped (inr other) e rest =
        has_point_wider off (set w i None) (set (set w n None) i None) (length-set (set w n None) i None ∙ length-set w n None ∙ sym (length-set w i None)) (λ p m. matches_without_both w i n p m)
        (rest (omega (arith, lt, other)) (sym (get_or-set_other w n i None None other) ∙ e))

    last : (i ≡ n) ⊎ (i ≡ n → ⊥) → has_point off (set w n None) ≡ true → get_or w i None ≡ Some b → (i < n → get_or w i None ≡ Some b → has_point off (set w i None) ≡ true) → has_point off (set w i None) ≡ true
    last (inl same) t e rest = subst (λ (k : ℕ). has_point off (set w k None) ≡ true) (sym same) t
    last (inr other) t e rest = rest (omega (arith, lt, other)) e

    cases : (t : Bool) → has_point off (set w n None) ≡ t → get_or (if t then w else set w n None) i None ≡ Some b → (i < n → get_or w i None ≡ Some b → has_point off (set w i None) ≡ true) → has_point off (set (if t then w else set w n None) i None) ≡ true
    cases true t e rest = last (cases_eq i n) t e rest
    cases false t e rest = dropped (cases_eq i n) e rest

-- a row with only the literals that must stay is prime, if it had no point at which the function
-- must be 0
pub prime-widened : (m : Meaning) (row : List (Option Bool)) → has_point m.off row ≡ false → IsPrime m (widened m.off row)
prime-widened m row h = record {
  implicant = λ found. let clash : true ≡ false = sym (has_point_at m.off (widened m.off row) found) ∙ off-widened_to m.off row (length row) h in absurd cc;
  needed = λ i b lt e. has_point_found m.off (set (widened m.off row) i None) (needed-widened_to m.off row (length row) i b (omega (arith, lt, length-widened_to m.off row (length row))) e);
}

pub HasWidth-widened : (off : List Bool → Bool) (w : ℕ) (rows : List (List (Option Bool))) → HasWidth w rows → HasWidth w (map (widened off) rows)
unfolding HasWidth
HasWidth-widened off w [] h = tt
HasWidth-widened off w (row ∷ rows) h = (length-widened_to off row (length row) ∙ h.0, HasWidth-widened off w rows h.1)

-- each point that some row had
pub matches-widened : (off : List Bool → Bool) (rows : List (List (Option Bool))) (p : List Bool) → some_matches rows p ≡ true → some_matches (map (widened off) rows) p ≡ true
unfolding some_matches
matches-widened off [] p h = cc
matches-widened off (row ∷ rows) p h = cases (matches row p) refl h (λ k. matches-widened off rows p k)
  where
    cases : (t : Bool) → matches row p ≡ t → (t || some_matches rows p) ≡ true → (some_matches rows p ≡ true → some_matches (map (widened off) rows) p ≡ true) → (matches (widened off row) p || some_matches (map (widened off) rows) p) ≡ true
    cases true e k rest = rw (matches-widened_to off row (length row) p e) refl
    cases false e k rest = or_right (matches (widened off row) p) _ (rest k)

-- tests that are the same at each point of the width widen alike
pub widened_same : (off other : List Bool → Bool) (row : List (Option Bool)) (n : ℕ) → ((p : List Bool) → IsPoint (length row) p → off p ≡ other p) → widened_to off row n ≡ widened_to other row n
unfolding widened_to widened_at
widened_same off other row zero h = refl
widened_same off other row (suc n) h =
    let rest : widened_to off row n ≡ widened_to other row n = widened_same off other row n h in
    let long : length (set (widened_to other row n) n None) ≡ length row = length-set (widened_to other row n) n None ∙ length-widened_to other row n in
    let test : has_point off (set (widened_to other row n) n None) ≡ has_point other (set (widened_to other row n) n None) = has_point_same off other _ (λ p d m. h p (d ∙ long)) in
    rw (rest, test) refl

pub all_widened_same : (off other : List Bool → Bool) (w : ℕ) (rows : List (List (Option Bool))) → HasWidth w rows → ((p : List Bool) → IsPoint w p → off p ≡ other p) → map (widened off) rows ≡ map (widened other) rows
unfolding HasWidth
all_widened_same off other w [] wide h = refl
all_widened_same off other w (row ∷ rows) wide h =
    let first : widened off row ≡ widened other row = widened_same off other row (length row) (λ p d. h p (d ∙ wide.0)) in
    rw (first, all_widened_same off other w rows wide.1 h) refl

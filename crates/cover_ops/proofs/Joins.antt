-- The list from a column on: where it is constant, where no row has a literal in the column, and
-- from its two halves.
use Rattle.std.proofs.Common.{◌≡◌, ℕ, ◌<◌, ◌≤◌, ◌+◌, zero, suc, Bool, true, false, not, ◌&&◌, ◌||◌, if◌then◌else◌, Option, Some, None, List, [], ◌∷◌, ◌++◌, length, get_or, set, drop, map, replicate, refl, sym, ap, ◌∙◌, subst, arith, ◌-◌, add-one, inl, inr, length-append}
use Rattle.std.proofs.lemmas.List.{length-map, length-replicate, replicate-append-replicate, map-append}
use Rattle.sis_base.specs.Rows.{agrees, matches, some_matches, phase_value, value_by_phase, HasWidth}
use Rattle.cube_cover.specs.Literals.{some_literal, not_dash, all_dashes, some_dashes}
use Rattle.cube_cover.proofs.Points.{HasWidth-append}
use Rattle.cube_cover.proofs.Splits.{matches_some_dashes}
use Rattle.cover_ops.specs.Shannon.{same, shannon, list_rows}
use Rattle.cube_cover.specs.Covers.{agreeing_rows}
use Rattle.cover_ops.specs.Halves.{constant_list, list_from, marked_rows, IsJoined}
use Rattle.cover_ops.proofs.Expansion.{same_respects, same_points, lists_same, shannon_respects, shannon_constant, value_shannon}

-- the function that rows give from a column on
abbrev pub rest_value : ℕ → Bool → List (List (Option Bool)) → List Bool → Bool
rest_value place phase rows point = value_by_phase phase (map (drop place) rows) point

abbrev pub prefixed : ℕ → List (List (Option Bool)) → List (List (Option Bool))
prefixed place rows = map (λ row. replicate place None ++ row) rows

prefixed_constant : (i n : ℕ) (b : Bool) → prefixed i (constant_list n b) ≡ constant_list (i + n) b
prefixed_constant i n true = ap (λ (row : List (Option Bool)). row ∷ []) (replicate-append-replicate i n None)
prefixed_constant i n false = refl

phase_none : (phase : Bool) → phase_value phase false ≡ not phase
phase_none true = refl
phase_none false = refl

phase_some : (phase : Bool) → phase_value phase true ≡ phase
phase_some true = refl
phase_some false = refl

pub empty_list : (i n : ℕ) (phase : Bool) → list_from i n phase [] ≡ constant_list (i + n) (not phase)
unfolding list_from value_by_phase some_matches
empty_list i n phase = ap (prefixed i) (ap (λ (b : Bool). shannon n (λ p. b)) (phase_none phase) ∙ shannon_constant n (not phase)) ∙ prefixed_constant i n (not phase)

pub free_list : (i n : ℕ) (phase : Bool) (rows : List (List (Option Bool))) → some_dashes (map (drop i) rows) ≡ true → list_from i n phase rows ≡ constant_list (i + n) phase
unfolding list_from value_by_phase
free_list i n phase rows h =
    ap (prefixed i) (shannon_respects n (λ p. value_by_phase phase (map (drop i) rows) p) (λ p. phase) (λ p e. ap (phase_value phase) (matches_some_dashes (map (drop i) rows) p h) ∙ phase_some phase) ∙ shannon_constant n phase)
    ∙ prefixed_constant i n phase

no_places : (i : ℕ) (row : List (Option Bool)) → length row ≡ i → drop i row ≡ []
no_places zero [] e = refl
no_places zero (l ∷ ls) e = absurd (omega arith)
no_places (suc i) [] e = absurd (omega arith)
no_places (suc i) (l ∷ ls) e = no_places i ls (omega arith)

-- after the last column each row is without literals
pub all_free : (w : ℕ) (rows : List (List (Option Bool))) → HasWidth w rows → 0 < length rows → some_dashes (map (drop w) rows) ≡ true
unfolding some_dashes all_dashes HasWidth
all_free w [] h lt = absurd (omega arith)
all_free w (row ∷ rows) h lt = rw (no_places w row h.0) refl

-- one column further
drop_row : (i : ℕ) (row : List (Option Bool)) → i < length row → drop i row ≡ get_or row i None ∷ drop (suc i) row
drop_row zero [] h = absurd (omega arith)
drop_row zero (l ∷ ls) h = refl
drop_row (suc i) [] h = absurd (omega arith)
drop_row (suc i) (l ∷ ls) h = drop_row i ls (omega arith)

rows_step : (w i : ℕ) (rows : List (List (Option Bool))) (b : Bool) (p : List Bool) → HasWidth w rows → i < w → some_matches (map (drop i) rows) (b ∷ p) ≡ some_matches (map (drop (suc i)) (agreeing_rows i b rows)) p
unfolding some_matches agreeing_rows HasWidth matches
rows_step w i [] b p h lt = refl
rows_step w i (row ∷ rows) b p h lt =
    rw (drop_row i row (omega (arith, h.0)), rows_step w i rows b p h.1 lt) (cases (agrees (get_or row i None) b))
  where
    cases : (t : Bool) → ((t && matches (drop (suc i) row) p) || some_matches (map (drop (suc i)) (agreeing_rows i b rows)) p) ≡ some_matches (map (drop (suc i)) (if t then row ∷ agreeing_rows i b rows else agreeing_rows i b rows)) p
    cases true = refl
    cases false = refl

pub HasWidth-part : (w i : ℕ) (b : Bool) (rows : List (List (Option Bool))) → HasWidth w rows → HasWidth w (agreeing_rows i b rows)
unfolding HasWidth agreeing_rows
HasWidth-part w i b [] h = tt
HasWidth-part w i b (row ∷ rows) h = cases (agrees (get_or row i None) b) (HasWidth-part w i b rows h.1)
  where
    cases : (t : Bool) → HasWidth w (agreeing_rows i b rows) → HasWidth w (if t then row ∷ agreeing_rows i b rows else agreeing_rows i b rows)
    cases true rest = (h.0, rest)
    cases false rest = rest

-- if no row has a literal in the column, both parts are all rows
part_all : (i : ℕ) (b : Bool) (rows : List (List (Option Bool))) → some_literal i rows ≡ false → agreeing_rows i b rows ≡ rows
unfolding agreeing_rows some_literal
part_all i b [] h = refl
part_all i b (row ∷ rows) h = cases (get_or row i None) h (λ k. part_all i b rows k)
  where
    cases : (l : Option Bool) → (not_dash l || some_literal i rows) ≡ false → (some_literal i rows ≡ false → agreeing_rows i b rows ≡ rows) → (if agrees l b then row ∷ agreeing_rows i b rows else agreeing_rows i b rows) ≡ row ∷ rows
    cases None h rest = ap (λ (xs : List (List (Option Bool))). row ∷ xs) (rest h)
    cases (Some x) h rest = cc

value_step : (w i : ℕ) (phase : Bool) (rows : List (List (Option Bool))) (b : Bool) (p : List Bool) → HasWidth w rows → i < w → rest_value i phase rows (b ∷ p) ≡ rest_value (suc i) phase (agreeing_rows i b rows) p
unfolding value_by_phase
value_step w i phase rows b p h lt = ap (phase_value phase) (rows_step w i rows b p h lt)

replicate_next : (i : ℕ) (row : List (Option Bool)) → replicate i None ++ None ∷ row ≡ replicate (suc i) None ++ row
replicate_next zero row = refl
replicate_next (suc i) row = ap (λ (xs : List (Option Bool)). None ∷ xs) (replicate_next i row)

prefixed_dash : (i : ℕ) (rows : List (List (Option Bool))) → prefixed i (map (λ row. None ∷ row) rows) ≡ prefixed (suc i) rows
prefixed_dash i [] = refl
prefixed_dash i (row ∷ rows) = rw (replicate_next i row, prefixed_dash i rows) refl

set_next : (i : ℕ) (b : Bool) (row : List (Option Bool)) → set (replicate (suc i) None ++ row) i (Some b) ≡ replicate i None ++ Some b ∷ row
set_next zero b row = refl
set_next (suc i) b row = ap (λ (xs : List (Option Bool)). None ∷ xs) (set_next i b row)

prefixed_marked : (i : ℕ) (b : Bool) (rows : List (List (Option Bool))) → marked_rows i b (prefixed (suc i) rows) ≡ prefixed i (map (λ row. Some b ∷ row) rows)
prefixed_marked i b [] = refl
prefixed_marked i b (row ∷ rows) = rw (set_next i b row, prefixed_marked i b rows) refl

prefix_drop : (i : ℕ) (row : List (Option Bool)) → drop i (replicate i None ++ row) ≡ row
prefix_drop zero row = refl
prefix_drop (suc i) row = prefix_drop i row

drop_prefixed : (i : ℕ) (rows : List (List (Option Bool))) → map (drop i) (prefixed i rows) ≡ rows
drop_prefixed i [] = refl
drop_prefixed i (row ∷ rows) = rw (prefix_drop i row, drop_prefixed i rows) refl

-- the list of the whole, where the halves agree and where they do not

abbrev half_list : ℕ → ℕ → Bool → List (List (Option Bool)) → Bool → List (List (Option Bool))
half_list i n phase rows b = shannon n (λ p. value_by_phase phase (map (drop (suc i)) (agreeing_rows i b rows)) p)

abbrev half_same : ℕ → ℕ → Bool → List (List (Option Bool)) → Bool
half_same i n phase rows = same n (λ p. value_by_phase phase (map (drop (suc i)) (agreeing_rows i false rows)) p) (λ p. value_by_phase phase (map (drop (suc i)) (agreeing_rows i true rows)) p)

whole_same : (w i n : ℕ) (phase : Bool) (rows : List (List (Option Bool))) → HasWidth w rows → i < w
    → same n (λ p. value_by_phase phase (map (drop i) rows) (false ∷ p)) (λ p. value_by_phase phase (map (drop i) rows) (true ∷ p)) ≡ half_same i n phase rows
whole_same w i n phase rows h lt = same_respects n _ _ _ _ (λ p e. value_step w i phase rows false p h lt) (λ p e. value_step w i phase rows true p h lt)

whole_half : (w i n : ℕ) (phase : Bool) (rows : List (List (Option Bool))) (b : Bool) → HasWidth w rows → i < w
    → shannon n (λ p. value_by_phase phase (map (drop i) rows) (b ∷ p)) ≡ half_list i n phase rows b
whole_half w i n phase rows b h lt = shannon_respects n _ _ (λ p e. value_step w i phase rows b p h lt)

whole_list : (w i n : ℕ) (phase : Bool) (rows : List (List (Option Bool))) → HasWidth w rows → i < w
    → list_from i (suc n) phase rows ≡ prefixed i (if half_same i n phase rows then map (λ row. None ∷ row) (half_list i n phase rows false) else map (λ row. Some false ∷ row) (half_list i n phase rows false) ++ map (λ row. Some true ∷ row) (half_list i n phase rows true))
unfolding list_from shannon
whole_list w i n phase rows h lt = rw (whole_same w i n phase rows h lt, whole_half w i n phase rows false h lt, whole_half w i n phase rows true h lt) refl

pub joined_list : (w i n : ℕ) (phase : Bool) (rows made : List (List (Option Bool))) → HasWidth w rows → i < w
    → IsJoined i (list_from (suc i) n phase (agreeing_rows i false rows)) (list_from (suc i) n phase (agreeing_rows i true rows)) made → made ≡ list_from i (suc n) phase rows
unfolding list_from
joined_list w i n phase rows made h lt (inl (e, is)) =
    let s : half_list i n phase rows false ≡ half_list i n phase rows true = sym (drop_prefixed (suc i) _) ∙ ap (map (drop (suc i))) e ∙ drop_prefixed (suc i) _ in
    is ∙ sym (whole_list w i n phase rows h lt ∙ rw (lists_same n _ _ s) (prefixed_dash i (half_list i n phase rows false)))
joined_list w i n phase rows made h lt (inr (ne, is)) = cases (half_same i n phase rows) refl
  where
    cases : (t : Bool) → half_same i n phase rows ≡ t → made ≡ list_from i (suc n) phase rows
    cases true e = absurd (ne (ap (prefixed (suc i)) (shannon_respects n _ _ (λ p d. same_points n _ _ e p d))))
    cases false e =
        is ∙ rw (prefixed_marked i false (half_list i n phase rows false), prefixed_marked i true (half_list i n phase rows true))
        (sym (whole_list w i n phase rows h lt ∙ rw e (map-append (λ (row : List (Option Bool)). replicate i None ++ row) (map (λ row. Some false ∷ row) (half_list i n phase rows false)) (map (λ row. Some true ∷ row) (half_list i n phase rows true)))))

pub skipped_list : (w i n : ℕ) (phase : Bool) (rows : List (List (Option Bool))) → HasWidth w rows → i < w → some_literal i rows ≡ false → list_from (suc i) n phase rows ≡ list_from i (suc n) phase rows
skipped_list w i n phase rows h lt none =
    let low : agreeing_rows i false rows ≡ rows = part_all i false rows none in
    let high : agreeing_rows i true rows ≡ rows = part_all i true rows none in
    joined_list w i n phase rows _ h lt (inl (rw (low, high) refl, rw low refl))

-- a half's list is no longer than the whole's
pub low_within : (w i n : ℕ) (phase : Bool) (rows : List (List (Option Bool))) → HasWidth w rows → i < w → length (list_from (suc i) n phase (agreeing_rows i false rows)) ≤ length (list_from i (suc n) phase rows)
unfolding list_from
low_within w i n phase rows h lt = rw (whole_list w i n phase rows h lt) (cases (half_same i n phase rows))
  where
    cases : (t : Bool) → length (prefixed (suc i) (half_list i n phase rows false)) ≤ length (prefixed i (if t then map (λ row. None ∷ row) (half_list i n phase rows false) else map (λ row. Some false ∷ row) (half_list i n phase rows false) ++ map (λ row. Some true ∷ row) (half_list i n phase rows true)))
    cases true = simp (length-map, length-append) (omega arith)
    cases false = simp (length-map, length-append) (omega arith)

pub high_within : (w i n : ℕ) (phase : Bool) (rows : List (List (Option Bool))) → HasWidth w rows → i < w → length (list_from (suc i) n phase (agreeing_rows i true rows)) ≤ length (list_from i (suc n) phase rows)
unfolding list_from
high_within w i n phase rows h lt = rw (whole_list w i n phase rows h lt) (cases (half_same i n phase rows) refl)
  where
    cases : (t : Bool) → half_same i n phase rows ≡ t → length (prefixed (suc i) (half_list i n phase rows true)) ≤ length (prefixed i (if t then map (λ row. None ∷ row) (half_list i n phase rows false) else map (λ row. Some false ∷ row) (half_list i n phase rows false) ++ map (λ row. Some true ∷ row) (half_list i n phase rows true)))
    cases true e =
        let s : half_list i n phase rows true ≡ half_list i n phase rows false = sym (shannon_respects n _ _ (λ p d. same_points n _ _ e p d)) in
        rw s (simp (length-map, length-append) (omega arith))
    cases false e = simp (length-map, length-append) (omega arith)

-- halves that differ have together as many rows as the whole
pub sum_of_halves : (w i n : ℕ) (phase : Bool) (rows : List (List (Option Bool))) → HasWidth w rows → i < w
    → (list_from (suc i) n phase (agreeing_rows i false rows) ≡ list_from (suc i) n phase (agreeing_rows i true rows) → ⊥)
    → length (list_from i (suc n) phase rows) ≡ length (list_from (suc i) n phase (agreeing_rows i false rows)) + length (list_from (suc i) n phase (agreeing_rows i true rows))
sum_of_halves w i n phase rows h lt ne =
    rw (sym (joined_list w i n phase rows (marked_rows i false (list_from (suc i) n phase (agreeing_rows i false rows)) ++ marked_rows i true (list_from (suc i) n phase (agreeing_rows i true rows))) h lt (inr (ne, refl))))
    (simp (length-append, length-map) refl)

-- from the first column the list is that of the function
prefixed_none : (rows : List (List (Option Bool))) → prefixed 0 rows ≡ rows
prefixed_none [] = refl
prefixed_none (row ∷ rows) = ap (λ (xs : List (List (Option Bool))). row ∷ xs) (prefixed_none rows)

drop_none : (rows : List (List (Option Bool))) → map (drop 0) rows ≡ rows
drop_none [] = refl
drop_none (row ∷ rows) = ap (λ (xs : List (List (Option Bool))). row ∷ xs) (drop_none rows)

pub list_from_first : (n : ℕ) (phase : Bool) (rows : List (List (Option Bool))) → list_from 0 n phase rows ≡ list_rows n phase rows
unfolding list_from list_rows
list_from_first n phase rows = rw (drop_none rows) (prefixed_none (shannon n (λ p. value_by_phase phase rows p)))

HasWidth-cons : (n : ℕ) (l : Option Bool) (rows : List (List (Option Bool))) → HasWidth n rows → HasWidth (suc n) (map (λ row. l ∷ row) rows)
unfolding HasWidth
HasWidth-cons n l [] h = tt
HasWidth-cons n l (row ∷ rows) h = (ap suc h.0, HasWidth-cons n l rows h.1)

-- each row of a Shannon list has a column for each input
pub HasWidth-shannon : (n : ℕ) (f : List Bool → Bool) → HasWidth n (shannon n f)
unfolding shannon HasWidth
HasWidth-shannon zero f = cases (f [])
  where
    cases : (t : Bool) → HasWidth zero (if t then [] ∷ [] else [])
    cases true = (refl, tt)
    cases false = tt
HasWidth-shannon (suc n) f = cases (same n (λ q. f (false ∷ q)) (λ q. f (true ∷ q))) (HasWidth-shannon n (λ q. f (false ∷ q))) (HasWidth-shannon n (λ q. f (true ∷ q)))
  where
    cases : (t : Bool) → HasWidth n (shannon n (λ q. f (false ∷ q))) → HasWidth n (shannon n (λ q. f (true ∷ q)))
        → HasWidth (suc n) (if t then map (λ row. None ∷ row) (shannon n (λ q. f (false ∷ q))) else map (λ row. Some false ∷ row) (shannon n (λ q. f (false ∷ q))) ++ map (λ row. Some true ∷ row) (shannon n (λ q. f (true ∷ q))))
    cases true low high = HasWidth-cons n None _ low
    cases false low high = HasWidth-append _ _ _ (HasWidth-cons n (Some false) _ low) (HasWidth-cons n (Some true) _ high)

HasWidth-prefixed : (i n : ℕ) (rows : List (List (Option Bool))) → HasWidth n rows → HasWidth (i + n) (prefixed i rows)
unfolding HasWidth
HasWidth-prefixed i n [] h = tt
HasWidth-prefixed i n (row ∷ rows) h = (length-append (replicate i None) row ∙ omega (arith, length-replicate {A = Option Bool} i None, h.0), HasWidth-prefixed i n rows h.1)

pub HasWidth-list_from : (w i n : ℕ) (phase : Bool) (rows : List (List (Option Bool))) → i + n ≡ w → HasWidth w (list_from i n phase rows)
unfolding list_from
HasWidth-list_from w i n phase rows e = subst (λ (k : ℕ). HasWidth k (list_from i n phase rows)) e (HasWidth-prefixed i n _ (HasWidth-shannon n (λ p. value_by_phase phase (map (drop i) rows) p)))

-- what two reads at one index of equal lists give
pub same_read : {X Y : Type 0} (f : X → Y) (low high : List X) (i : ℕ) (x y : X) → i < length low → i < length high → x ≡ get_or low i x → y ≡ get_or high i y → map f low ≡ map f high → f x ≡ f y
same_read f [] high i x y lt le a b e = absurd (omega arith)
same_read f (v ∷ low) [] i x y lt le a b e = absurd (omega arith)
same_read f (v ∷ low) (w ∷ high) zero x y lt le a b e = let first : f v ≡ f w = cc in ap f a ∙ first ∙ sym (ap f b)
same_read f (v ∷ low) (w ∷ high) (suc i) x y lt le a b e = let rest : map f low ≡ map f high = cc in same_read f low high i x y (omega arith) (omega arith) a b rest

-- the same for the code's numbers: `left` columns from `i` on
pub empty_at : (w i left : ℕ) (phase : Bool) (rows : List (List (Option Bool))) → rows ≡ [] → i + left ≡ w → list_from i left phase rows ≡ constant_list w (not phase)
empty_at w i left phase rows e s = ap (list_from i left phase) e ∙ empty_list i left phase ∙ ap (λ (k : ℕ). constant_list k (not phase)) s

pub free_at : (w i left : ℕ) (phase : Bool) (rows : List (List (Option Bool))) → some_dashes (map (drop i) rows) ≡ true → i + left ≡ w → list_from i left phase rows ≡ constant_list w phase
free_at w i left phase rows h s = free_list i left phase rows h ∙ ap (λ (k : ℕ). constant_list k phase) s

pub last_at : (w i left : ℕ) (phase : Bool) (rows : List (List (Option Bool))) → HasWidth w rows → 0 < length rows → left ≡ 0 → i + left ≡ w → list_from i left phase rows ≡ constant_list w phase
last_at w i left phase rows h lt z s =
    let e : w ≡ i = omega arith in
    free_at w i left phase rows (subst (λ (k : ℕ). some_dashes (map (drop k) rows) ≡ true) e (all_free w rows h lt)) s

pub joined_at : (w i left : ℕ) (phase : Bool) (rows made : List (List (Option Bool))) → HasWidth w rows → 0 < left → i + left ≡ w
    → IsJoined i (list_from (i + 1) (left - 1) phase (agreeing_rows i false rows)) (list_from (i + 1) (left - 1) phase (agreeing_rows i true rows)) made → made ≡ list_from i left phase rows
joined_at w i left phase rows made h lt s j =
    let e : suc (left - 1) ≡ left = omega arith in
    subst (λ (k : ℕ). made ≡ list_from i k phase rows) e
    (joined_list w i (left - 1) phase rows made h (omega arith)
    (subst (λ (k : ℕ). IsJoined i (list_from k (left - 1) phase (agreeing_rows i false rows)) (list_from k (left - 1) phase (agreeing_rows i true rows)) made) (add-one i) j))

pub skipped_at : (w i left : ℕ) (phase : Bool) (rows : List (List (Option Bool))) → HasWidth w rows → 0 < left → i + left ≡ w → some_literal i rows ≡ false → list_from i left phase rows ≡ list_from (i + 1) (left - 1) phase rows
skipped_at w i left phase rows h lt s none =
    let e : suc (left - 1) ≡ left = omega arith in
    sym (subst (λ (k : ℕ). list_from (i + 1) (left - 1) phase rows ≡ list_from i k phase rows) e
    (subst (λ (k : ℕ). list_from k (left - 1) phase rows ≡ list_from i (suc (left - 1)) phase rows) (sym (add-one i)) (skipped_list w i (left - 1) phase rows h (omega arith) none)))

pub half_at : (w i left : ℕ) (phase : Bool) (rows : List (List (Option Bool))) (b : Bool) → HasWidth w rows → 0 < left → i + left ≡ w → length (list_from (i + 1) (left - 1) phase (agreeing_rows i b rows)) ≤ length (list_from i left phase rows)
half_at w i left phase rows b h lt s =
    let e : suc (left - 1) ≡ left = omega arith in
    subst (λ (k : ℕ). length (list_from (i + 1) (left - 1) phase (agreeing_rows i b rows)) ≤ length (list_from i k phase rows)) e
    (subst (λ (k : ℕ). length (list_from k (left - 1) phase (agreeing_rows i b rows)) ≤ length (list_from i (suc (left - 1)) phase rows)) (sym (add-one i)) (by_bit b))
  where
    by_bit : (b : Bool) → length (list_from (suc i) (left - 1) phase (agreeing_rows i b rows)) ≤ length (list_from i (suc (left - 1)) phase rows)
    by_bit false = low_within w i (left - 1) phase rows h (omega arith)
    by_bit true = high_within w i (left - 1) phase rows h (omega arith)

pub sum_at : (w i left : ℕ) (phase : Bool) (rows : List (List (Option Bool))) → HasWidth w rows → 0 < left → i + left ≡ w
    → (list_from (i + 1) (left - 1) phase (agreeing_rows i false rows) ≡ list_from (i + 1) (left - 1) phase (agreeing_rows i true rows) → ⊥)
    → length (list_from i left phase rows) ≡ length (list_from (i + 1) (left - 1) phase (agreeing_rows i false rows)) + length (list_from (i + 1) (left - 1) phase (agreeing_rows i true rows))
sum_at w i left phase rows h lt s ne =
    joined_length (marked_rows i false (list_from (i + 1) (left - 1) phase (agreeing_rows i false rows)) ++ marked_rows i true (list_from (i + 1) (left - 1) phase (agreeing_rows i true rows))) (joined_at w i left phase rows (marked_rows i false (list_from (i + 1) (left - 1) phase (agreeing_rows i false rows)) ++ marked_rows i true (list_from (i + 1) (left - 1) phase (agreeing_rows i true rows))) h lt s (inr (ne, refl))) (simp (length-append, length-map) refl)
  where
    joined_length : (made : List (List (Option Bool))) → made ≡ list_from i left phase rows → length made ≡ length (list_from (i + 1) (left - 1) phase (agreeing_rows i false rows)) + length (list_from (i + 1) (left - 1) phase (agreeing_rows i true rows)) → length (list_from i left phase rows) ≡ length (list_from (i + 1) (left - 1) phase (agreeing_rows i false rows)) + length (list_from (i + 1) (left - 1) phase (agreeing_rows i true rows))
    joined_length made e k = sym (ap length e) ∙ k

-- the list as a cover of the function, and of the complement
pub list_value : (n : ℕ) (phase : Bool) (rows : List (List (Option Bool))) (p : List Bool) → length p ≡ n → some_matches (list_rows n phase rows) p ≡ value_by_phase phase rows p
unfolding list_rows
list_value n phase rows p e = value_shannon n (λ point. value_by_phase phase rows point) p e

pub other_phase : (phase : Bool) (rows : List (List (Option Bool))) (p : List Bool) → value_by_phase (not phase) rows p ≡ not (value_by_phase phase rows p)
unfolding value_by_phase
other_phase true rows p = refl
other_phase false rows p = twice (some_matches rows p)
  where
    twice : (b : Bool) → b ≡ not (not b)
    twice true = refl
    twice false = refl

pub HasWidth-list_rows : (n : ℕ) (phase : Bool) (rows : List (List (Option Bool))) → HasWidth n (list_rows n phase rows)
unfolding list_rows
HasWidth-list_rows n phase rows = HasWidth-shannon n (λ point. value_by_phase phase rows point)

-- The value of a composed cover: the outer cover's, with the inner table's value for its input.
use Rattle.std.proofs.Common.{◌≡◌, ◌≢◌, ℕ, ◌<◌, ◌≤◌, ◌+◌, ◌-◌, zero, suc, Bool, true, false, not, ◌&&◌, ◌||◌, if◌then◌else◌, Option, Some, None, List, [], ◌∷◌, ◌++◌, length, get_or, set, take, drop, map, replicate, refl, sym, ap, ◌∙◌, subst, arith, ◌⊎◌, inl, inr, add-one, ltb, eqb, length-append}
use Rattle.std.proofs.lemmas.Bool.{eqb-true, eqb-false, ltb-true, ltb-false, false_from_ne_true}
use Rattle.std.proofs.Math.Bool.{and-false, or-false, and-true, and_comm}
use Rattle.std.proofs.lemmas.List.{length-set, length-map, length-replicate, get_or-set_other, get_or-replicate, length-take, length-drop, length-take-le, get_or_append_left, get_or-append_right, get_or-take, get_or-drop}
use Rattle.sis_base.specs.Rows.{agrees, matches, some_matches, value_by_phase, HasWidth}
use Rattle.cube_cover.specs.Covers.{Shape, product_of, Intersects}
use Rattle.cube_cover.specs.Literals.{has_literal, rows_intersect}
use Rattle.cube_cover.proofs.Points.{value-append, HasWidth-append}
use Rattle.cube_cover.proofs.Products.{test_from_intersects, intersects_from_test, product_points, length-product_of}
use Rattle.cover_ops.specs.Shannon.{bits_equal, list_rows}
use Rattle.cover_ops.specs.Composed.{AreBelow, count_new, is_entry, AreEntries, outer_place, targets, outer_row, inner_row, row_products, composed_row, composed_rows, cover_for, asks, placed_rows, composition, inner_point, outer_point}
use Rattle.cover_ops.proofs.Joins.{list_value, HasWidth-list_rows}

-- a literal set in place of a dash
matches-set : (row : List (Option Bool)) (p : List Bool) (i : ℕ) (l : Option Bool) → i < length row → length p ≡ length row → get_or row i None ≡ None → matches (set row i l) p ≡ (agrees l (get_or p i false) && matches row p)
unfolding matches
matches-set [] p i l lt e n = absurd (omega arith)
matches-set (m ∷ row) [] i l lt e n = absurd (omega arith)
matches-set (m ∷ row) (b ∷ p) zero l lt e n = rw n refl
matches-set (m ∷ row) (b ∷ p) (suc i) l lt e n = rw (matches-set row p i l (omega arith) (omega arith) n) (swapped (agrees m b) (agrees l (get_or p i false)) (matches row p))
  where
    swapped : (x y z : Bool) → (x && (y && z)) ≡ (y && (x && z))
    swapped true y z = refl
    swapped false true z = refl
    swapped false false z = refl

-- targets that are different, within a row, and dashes there
abbrev pub AreFree : List (Option Bool) → List ℕ → Type 0
AreFree row [] = Unit {0}
AreFree row (t ∷ ts) = (t < length row) × (get_or row t None ≡ None) × AreFree row ts

abbrev pub is_target : ℕ → List ℕ → Bool
is_target t [] = false
is_target t (u ∷ us) = eqb t u || is_target t us

abbrev pub AreApart : List ℕ → Type 0
AreApart [] = Unit {0}
AreApart (t ∷ ts) = (is_target t ts ≡ false) × AreApart ts

or_first : (x y : Bool) → (x || y) ≡ false → x ≡ false
or_first true y h = h
or_first false y h = refl

or_second : (x y : Bool) → (x || y) ≡ false → y ≡ false
or_second true y h = cc
or_second false y h = h

free_set : (row : List (Option Bool)) (t : ℕ) (l : Option Bool) (ts : List ℕ) → AreFree row ts → is_target t ts ≡ false → AreFree (set row t l) ts
free_set row t l [] h a = tt
free_set row t l (u ∷ us) h a =
    let ne : u ≢ t = λ e. eqb-false t u (or_first (eqb t u) (is_target t us) a) (sym e) in
    (rw (length-set row t l) h.0, get_or-set_other row t u l None ne ∙ h.1, free_set row t l us h.2 (or_second (eqb t u) (is_target t us) a))

and_regroup : (x y z : Bool) → ((x && y) && z) ≡ (y && (x && z))
and_regroup true y z = refl
and_regroup false true z = refl
and_regroup false false z = refl

-- an inner row at its targets
pub matches-inner_row : (row : List (Option Bool)) (ts : List ℕ) (ls : List (Option Bool)) (p : List Bool) → AreFree row ts → AreApart ts → length p ≡ length row → length ls ≡ length ts
    → matches (inner_row row ts ls) p ≡ (matches row p && matches ls (inner_point ts p))
unfolding inner_row matches
matches-inner_row row [] [] p f a e d = sym (and-true (matches row p))
matches-inner_row row [] (l ∷ ls) p f a e d = absurd (omega arith)
matches-inner_row row (t ∷ ts) [] p f a e d = absurd (omega arith)
matches-inner_row row (t ∷ ts) (l ∷ ls) p f a e d =
    matches-inner_row (set row t l) ts ls p (free_set row t l ts f.2 a.0) a.1 (e ∙ sym (length-set row t l)) (omega arith)
    ∙ rw (matches-set row p t l f.0 e f.1) (and_regroup (agrees l (get_or p t false)) (matches row p) (matches ls (inner_point ts p)))

matches-replicate : (n : ℕ) (p : List Bool) → matches (replicate n None) p ≡ true
unfolding matches
matches-replicate zero p = refl
matches-replicate (suc n) [] = refl
matches-replicate (suc n) (b ∷ p) = matches-replicate n p

pub free_dashes : (w : ℕ) (ts : List ℕ) → AreBelow w ts → AreFree (replicate w None) ts
unfolding AreBelow
free_dashes w [] h = tt
free_dashes w (t ∷ ts) h = (rw (length-replicate {A = Option Bool} w None) h.0, get_or-replicate w t None None h.0, free_dashes w ts h.1)

pub value-inner_row : (w v : ℕ) (ts : List ℕ) (rows : List (List (Option Bool))) (p : List Bool) → AreBelow w ts → AreApart ts → length p ≡ w → HasWidth (length ts) rows
    → some_matches (placed_rows w ts rows) p ≡ some_matches rows (inner_point ts p)
unfolding some_matches HasWidth
value-inner_row w v ts [] p b a e h = refl
value-inner_row w v ts (row ∷ rows) p b a e h =
    rw (matches-inner_row (replicate w None) ts row p (free_dashes w ts b) a (e ∙ sym (length-replicate w None)) h.0, matches-replicate w p, value-inner_row w v ts rows p b a e h.1) refl

-- products
value-row_products : (row : List (Option Bool)) (others : List (List (Option Bool))) (p : List Bool) → HasWidth (length row) others → length p ≡ length row
    → some_matches (row_products row others) p ≡ (matches row p && some_matches others p)
unfolding some_matches row_products HasWidth
value-row_products row [] p h e = sym (and-false (matches row p))
value-row_products row (other ∷ others) p h e =
    cases (rows_intersect row other) refl (matches row p) refl (matches other p) refl (value-row_products row others p h.1 e)
  where
    cases : (t : Bool) → rows_intersect row other ≡ t → (x : Bool) → matches row p ≡ x → (y : Bool) → matches other p ≡ y
        → some_matches (row_products row others) p ≡ (matches row p && some_matches others p)
        → some_matches (if t then product_of row other ∷ row_products row others else row_products row others) p ≡ (x && (y || some_matches others p))
    cases true g x a y b rest = rw (product_points row other (sym h.0) (intersects_from_test row other (sym h.0) g) p e, rest, a, b) (spread x y (some_matches others p))
      where
        spread : (x y z : Bool) → ((x && y) || (x && z)) ≡ (x && (y || z))
        spread true y z = refl
        spread false y z = refl
    cases false g false a y b rest = rest ∙ rw a refl
    cases false g true a false b rest = rest ∙ rw a refl
    cases false g true a true b rest = let both : true ≡ false = sym (test_from_intersects row other (sym h.0) (p, e, a, b)) ∙ g in cc

-- an outer row at a point
opened_at : (added : ℕ) (row : List (Option Bool)) (p : List Bool) → added ≤ length p → matches (replicate added None ++ row) p ≡ matches row (drop added p)
unfolding matches
opened_at zero row p h = refl
opened_at (suc added) row [] h = absurd (omega arith)
opened_at (suc added) row (b ∷ p) h = opened_at added row p (omega arith)

matches-outer_row : (x added : ℕ) (row : List (Option Bool)) (p : List Bool) (v : Bool) → x < length row → x + added ≤ length p
    → matches row (take x p ++ v ∷ drop (x + added) p) ≡ (agrees (get_or row x None) v && matches (outer_row x added row) p)
unfolding matches
matches-outer_row x added [] p v h k = absurd (omega arith)
matches-outer_row zero added (l ∷ ls) p v h k =
    let e : zero + added ≡ added = omega arith in
    rw e (ap (λ (x : Bool). agrees l v && x) (sym (opened_at added ls p (omega arith))))
matches-outer_row (suc x) added (l ∷ ls) [] v h k = absurd (omega arith)
matches-outer_row (suc x) added (l ∷ ls) (b ∷ p) v h k =
    let e : suc x + added ≡ suc (x + added) = omega arith in
    rw (e, matches-outer_row x added ls p v (omega arith) (omega arith)) (swapped (agrees l b) (agrees (get_or ls x None) v) (matches (outer_row x added ls) p))
  where
    swapped : (x y z : Bool) → (x && (y && z)) ≡ (y && (x && z))
    swapped true y z = refl
    swapped false true z = refl
    swapped false false z = refl

pub length-outer_row : (x added : ℕ) (row : List (Option Bool)) → x < length row → length (outer_row x added row) ≡ length row + added - 1
length-outer_row x added row h = simp (length-append, length-replicate, length-take, length-drop) (omega arith)

-- a composed cover at a point
value-composed_rows : (w x added : ℕ) (on off rows : List (List (Option Bool))) (p : List Bool) (v : Bool) → HasWidth w rows → x < w → HasWidth (w + added - 1) on → HasWidth (w + added - 1) off
    → length p ≡ w + added - 1 → some_matches on p ≡ v → some_matches off p ≡ not v
    → some_matches (composed_rows x added on off rows) p ≡ some_matches rows (take x p ++ v ∷ drop (x + added) p)
unfolding composed_rows some_matches HasWidth
value-composed_rows w x added on off [] p v h lt a b e c d = refl
value-composed_rows w x added on off (row ∷ rows) p v h lt a b e c d =
    rw (
      value-append (composed_row (get_or row x None) (outer_row x added row) on off) (composed_rows x added on off rows) p,
      matches-outer_row x added row p v (omega (arith, h.0)) (omega arith),
      value-composed_rows w x added on off rows p v h.1 lt a b e c d,
    )
    (ap (λ (t : Bool). t || some_matches rows (take x p ++ v ∷ drop (x + added) p)) (cases (get_or row x None)))
  where
    width : length (outer_row x added row) ≡ w + added - 1
    width = length-outer_row x added row (omega (arith, h.0)) ∙ ap (λ (n : ℕ). n + added - 1) h.0

    cases : (l : Option Bool) → some_matches (composed_row l (outer_row x added row) on off) p ≡ (agrees l v && matches (outer_row x added row) p)
    cases None = or-false (matches (outer_row x added row) p)
    cases (Some true) = value-row_products (outer_row x added row) on p (subst (λ (n : ℕ). HasWidth n on) (sym width) a) (e ∙ sym width) ∙ rw c (and_comm (matches (outer_row x added row) p) v)
    cases (Some false) = value-row_products (outer_row x added row) off p (subst (λ (n : ℕ). HasWidth n off) (sym width) b) (e ∙ sym width) ∙ rw d (and_comm (matches (outer_row x added row) p) (not v))

value_for : (inner : Shape) (phase : Bool) (ip : List Bool) → length ip ≡ inner.width → some_matches (cover_for inner phase true) ip ≡ value_by_phase phase inner.rows ip
unfolding value_by_phase
value_for inner true ip e = refl
value_for inner false ip e = list_value inner.width false inner.rows ip e

value_against : (inner : Shape) (phase : Bool) (ip : List Bool) → length ip ≡ inner.width → some_matches (cover_for inner phase false) ip ≡ not (value_by_phase phase inner.rows ip)
unfolding value_by_phase
value_against inner true ip e = list_value inner.width false inner.rows ip e
value_against inner false ip e = twice (some_matches inner.rows ip)
  where
    twice : (b : Bool) → b ≡ not (not b)
    twice true = refl
    twice false = refl

-- the targets are different, and below the result's width
is_none_of : (n u : ℕ) (us : List ℕ) → n ≢ u → is_target n us ≡ false → is_target n (u ∷ us) ≡ false
is_none_of n u us ne h = rw (false_from_ne_true (eqb n u) (λ e. ne (eqb-true n u e))) h

moved_cases : (x added q : ℕ) → q ≢ x → ((q < x) × (outer_place x added q ≡ q)) ⊎ ((x < q) × (outer_place x added q ≡ q + added - 1))
moved_cases x added q ne = cases (ltb q x) refl
  where
    cases : (t : Bool) → ltb q x ≡ t → ((q < x) × ((if t then q else q + added - 1) ≡ q)) ⊎ ((x < q) × ((if t then q else q + added - 1) ≡ q + added - 1))
    cases true e = inl (ltb-true q x e, refl)
    cases false e = let le : x ≤ q = ltb-false q x e in inr (omega arith, refl)

new_apart : (x added n q : ℕ) → x ≤ n → n < x + added → q ≢ x → n ≢ outer_place x added q
new_apart x added n q le lt ne = elim (moved_cases x added q ne) [ inl c ↦ (λ e. let k : n ≡ q = e ∙ c.1 in omega (arith, c.0, k)) | inr c ↦ (λ e. let k : n ≡ q + added - 1 = e ∙ c.1 in omega (arith, c.0, k)) ]

old_apart : (x added p q : ℕ) → p ≢ x → q ≢ x → p ≢ q → outer_place x added p ≢ outer_place x added q
old_apart x added p q np nq ne =
    elim (moved_cases x added p np) [
      | inl c ↦ elim (moved_cases x added q nq) [
        | inl d ↦ (λ e. let k : p ≡ q = sym c.1 ∙ e ∙ d.1 in omega (arith, k))
        | inr d ↦ (λ e. let k : p ≡ q + added - 1 = sym c.1 ∙ e ∙ d.1 in omega (arith, c.0, d.0, k))
      ]
      | inr c ↦ elim (moved_cases x added q nq) [
        | inl d ↦ (λ e. let k : p + added - 1 ≡ q = sym c.1 ∙ e ∙ d.1 in omega (arith, c.0, d.0, k))
        | inr d ↦ (λ e. let k : p + added - 1 ≡ q + added - 1 = sym c.1 ∙ e ∙ d.1 in omega (arith, c.0, d.0, k))
      ]
    ]

moved_below : (w x added q : ℕ) → q < w → x < w → q ≢ x → outer_place x added q < w + added - 1
moved_below w x added q lt le ne = elim (moved_cases x added q ne) [ inl c ↦ rw c.1 (omega (arith, c.0)) | inr c ↦ rw c.1 (omega (arith, c.0)) ]

new_target : (w x added next n : ℕ) (ps : List (Option ℕ)) → AreEntries w x ps → n < next → x ≤ n → n < x + added → is_target n (targets x added next ps) ≡ false
unfolding targets AreEntries
new_target w x added next n [] h lt le below = refl
new_target w x added next n (None ∷ ps) h lt le below = is_none_of n next _ (omega arith) (new_target w x added (next + 1) n ps h (omega arith) le below)
new_target w x added next n (Some q ∷ ps) h lt le below = is_none_of n (outer_place x added q) _ (new_apart x added n q le below h.1) (new_target w x added next n ps h.3 lt le below)

old_target : (w x added next p : ℕ) (ps : List (Option ℕ)) → AreEntries w x ps → p ≢ x → is_entry p ps ≡ false → x ≤ next → next + count_new ps ≤ x + added → is_target (outer_place x added p) (targets x added next ps) ≡ false
unfolding targets AreEntries is_entry count_new
old_target w x added next p [] h ne i le s = refl
old_target w x added next p (None ∷ ps) h ne i le s = is_none_of (outer_place x added p) next _ (λ e. new_apart x added next p le (omega arith) ne (sym e)) (old_target w x added (next + 1) p ps h ne i (omega arith) (omega arith))
old_target w x added next p (Some q ∷ ps) h ne i le s = is_none_of (outer_place x added p) (outer_place x added q) _ (old_apart x added p q ne h.1 (eqb-false p q (or_first (eqb p q) (is_entry p ps) i))) (old_target w x added next p ps h.3 ne (or_second (eqb p q) (is_entry p ps) i) le s)

pub targets_apart : (w x added next : ℕ) (ps : List (Option ℕ)) → AreEntries w x ps → x ≤ next → next + count_new ps ≤ x + added → AreApart (targets x added next ps)
unfolding targets AreEntries count_new
targets_apart w x added next [] h le s = tt
targets_apart w x added next (None ∷ ps) h le s = (new_target w x added (next + 1) next ps h (omega arith) le (omega arith), targets_apart w x added (next + 1) ps h (omega arith) (omega arith))
targets_apart w x added next (Some q ∷ ps) h le s = (old_target w x added next q ps h.3 h.1 h.2 le s, targets_apart w x added next ps h.3 le s)

pub targets_below : (w x added next : ℕ) (ps : List (Option ℕ)) → AreEntries w x ps → x < w → x ≤ next → next + count_new ps ≤ x + added → AreBelow (w + added - 1) (targets x added next ps)
unfolding targets AreEntries count_new AreBelow
targets_below w x added next [] h lt le s = tt
targets_below w x added next (None ∷ ps) h lt le s = (omega arith, targets_below w x added (next + 1) ps h lt (omega arith) (omega arith))
targets_below w x added next (Some q ∷ ps) h lt le s = (moved_below w x added q h.0 lt h.1, targets_below w x added next ps h.3 lt le s)

pub length-targets : (x added next : ℕ) (ps : List (Option ℕ)) → length (targets x added next ps) ≡ length ps
unfolding targets
length-targets x added next [] = refl
length-targets x added next (None ∷ ps) = ap suc (length-targets x added (next + 1) ps)
length-targets x added next (Some q ∷ ps) = ap suc (length-targets x added next ps)

pub length-inner_row : (row : List (Option Bool)) (ts : List ℕ) (ls : List (Option Bool)) → length (inner_row row ts ls) ≡ length row
unfolding inner_row
length-inner_row row [] ls = refl
length-inner_row row (t ∷ ts) [] = refl
length-inner_row row (t ∷ ts) (l ∷ ls) = length-inner_row (set row t l) ts ls ∙ length-set row t l

pub HasWidth-placed_rows : (w : ℕ) (ts : List ℕ) (rows : List (List (Option Bool))) → HasWidth w (placed_rows w ts rows)
unfolding HasWidth
HasWidth-placed_rows w ts [] = tt
HasWidth-placed_rows w ts (row ∷ rows) = (length-inner_row (replicate w None) ts row ∙ length-replicate w None, HasWidth-placed_rows w ts rows)

HasWidth-row_products : (w : ℕ) (row : List (Option Bool)) (others : List (List (Option Bool))) → length row ≡ w → HasWidth w others → HasWidth w (row_products row others)
unfolding HasWidth row_products
HasWidth-row_products w row [] e h = tt
HasWidth-row_products w row (other ∷ others) e h = cases (rows_intersect row other) (HasWidth-row_products w row others e h.1)
  where
    cases : (t : Bool) → HasWidth w (row_products row others) → HasWidth w (if t then product_of row other ∷ row_products row others else row_products row others)
    cases true rest = (length-product_of row other (e ∙ sym h.0) ∙ e, rest)
    cases false rest = rest

pub HasWidth-composed_rows : (w x added : ℕ) (on off rows : List (List (Option Bool))) → HasWidth w rows → x < w → HasWidth (w + added - 1) on → HasWidth (w + added - 1) off → HasWidth (w + added - 1) (composed_rows x added on off rows)
unfolding HasWidth composed_rows
HasWidth-composed_rows w x added on off [] h lt a b = tt
HasWidth-composed_rows w x added on off (row ∷ rows) h lt a b = HasWidth-append _ _ _ (cases (get_or row x None)) (HasWidth-composed_rows w x added on off rows h.1 lt a b)
  where
    width : length (outer_row x added row) ≡ w + added - 1
    width = length-outer_row x added row (omega (arith, h.0)) ∙ ap (λ (n : ℕ). n + added - 1) h.0

    cases : (l : Option Bool) → HasWidth (w + added - 1) (composed_row l (outer_row x added row) on off)
    cases None = (width, tt)
    cases (Some true) = HasWidth-row_products _ _ on width a
    cases (Some false) = HasWidth-row_products _ _ off width b

pub HasWidth-composition : (outer : Shape) (x : ℕ) (inner : Shape) (phase : Bool) (places : List (Option ℕ)) → HasWidth outer.width outer.rows → x < outer.width → HasWidth (composition outer x inner phase places).width (composition outer x inner phase places).rows
HasWidth-composition outer x inner phase places h lt = HasWidth-composed_rows outer.width x (count_new places) _ _ outer.rows h lt (HasWidth-placed_rows _ _ _) (HasWidth-placed_rows _ _ _)

pub HasWidth-cover_for : (inner : Shape) (phase bit : Bool) → HasWidth inner.width inner.rows → HasWidth inner.width (cover_for inner phase bit)
HasWidth-cover_for inner phase bit h = cases (bits_equal bit phase)
  where
    cases : (t : Bool) → HasWidth inner.width (if t then inner.rows else list_rows inner.width false inner.rows)
    cases true = h
    cases false = HasWidth-list_rows inner.width false inner.rows

-- the composed cover's value is the outer cover's with the inner table's value for x
pub value-composition : (outer : Shape) (x : ℕ) (inner : Shape) (phase : Bool) (places : List (Option ℕ)) (p : List Bool) → HasWidth outer.width outer.rows → HasWidth inner.width inner.rows → x < outer.width → length places ≡ inner.width
    → AreEntries outer.width x places → length p ≡ (composition outer x inner phase places).width
    → some_matches (composition outer x inner phase places).rows p ≡ some_matches outer.rows (outer_point x (count_new places) (value_by_phase phase inner.rows (inner_point (targets x (count_new places) x places) p)) p)
value-composition outer x inner phase places p h k lt d entries e =
    let below : AreBelow (outer.width + count_new places - 1) (targets x (count_new places) x places) = targets_below outer.width x (count_new places) x places entries lt (omega arith) (omega arith) in
    let apart : AreApart (targets x (count_new places) x places) = targets_apart outer.width x (count_new places) x places entries (omega arith) (omega arith) in
    let many : length (targets x (count_new places) x places) ≡ inner.width = length-targets x (count_new places) x places ∙ d in
    let there : length (inner_point (targets x (count_new places) x places) p) ≡ inner.width = length-map (targets x (count_new places) x places) (λ (place : ℕ). get_or p place false) ∙ many in
    value-composed_rows outer.width x (count_new places) _ _ outer.rows p _ h lt (HasWidth-placed_rows _ _ _) (HasWidth-placed_rows _ _ _) e
    (value-inner_row _ 0 _ _ p below apart e (subst (λ (n : ℕ). HasWidth n (cover_for inner phase true)) (sym many) (HasWidth-cover_for inner phase true k)) ∙ value_for inner phase _ there)
    (value-inner_row _ 0 _ _ p below apart e (subst (λ (n : ℕ). HasWidth n (cover_for inner phase false)) (sym many) (HasWidth-cover_for inner phase false k)) ∙ value_against inner phase _ there)

-- what the code of the composition reads and writes, one column or one row after the other
pub opened_front : (x added q : ℕ) (row : List (Option Bool)) → x < length row → q < x → get_or (outer_row x added row) q None ≡ get_or row q None
opened_front x added q row h lt =
    get_or_append_left (take x row ++ replicate added None) (drop (suc x) row) None q (simp (length-append, length-take) (omega arith))
    ∙ get_or_append_left (take x row) (replicate added None) None q (simp length-take (omega arith)) ∙ get_or-take x row q None lt

pub opened_middle : (x added q : ℕ) (row : List (Option Bool)) → x < length row → x ≤ q → q < x + added → get_or (outer_row x added row) q None ≡ None
opened_middle x added q row h le lt =
    get_or_append_left (take x row ++ replicate added None) (drop (suc x) row) None q (simp (length-append, length-take, length-replicate) (omega arith))
    ∙ get_or-append_right (take x row) (replicate added None) x q None (length-take-le x row (omega arith)) le ∙ get_or-replicate added (q - x) None None (omega arith)

pub opened_back : (x added q : ℕ) (row : List (Option Bool)) → x < length row → x + added ≤ q → get_or (outer_row x added row) q None ≡ get_or row (q - added + 1) None
opened_back x added q row h le =
    get_or-append_right (take x row ++ replicate added None) (drop (suc x) row) (x + added) q None (length-append (take x row) (replicate added None) ∙ omega (arith, length-take-le x row (omega arith), length-replicate {A = Option Bool} added None)) le
    ∙ get_or-drop (suc x) row (q - (x + added)) None ∙ ap (λ (n : ℕ). get_or row n None) (omega arith)

pub below_at : (w : ℕ) (ts : List ℕ) (i : ℕ) → AreBelow w ts → i < length ts → get_or ts i 0 < w
unfolding AreBelow
below_at w [] i h lt = absurd (omega arith)
below_at w (t ∷ ts) zero h lt = h.0
below_at w (t ∷ ts) (suc i) h lt = below_at w ts i h.1 (omega arith)

-- covers that no literal asks for do not count
pub composed_asked : (x added : ℕ) (on off one two rows : List (List (Option Bool))) → (asks x true rows ≡ true → on ≡ one) → (asks x false rows ≡ true → off ≡ two) → composed_rows x added on off rows ≡ composed_rows x added one two rows
unfolding composed_rows asks
composed_asked x added on off one two [] h k = refl
composed_asked x added on off one two (row ∷ rows) h k =
    cases (get_or row x None) h k
    (λ a b. composed_asked x added on off one two rows a b)
  where
    cases : (l : Option Bool) → ((has_literal l true || asks x true rows) ≡ true → on ≡ one) → ((has_literal l false || asks x false rows) ≡ true → off ≡ two)
        → ((asks x true rows ≡ true → on ≡ one) → (asks x false rows ≡ true → off ≡ two) → composed_rows x added on off rows ≡ composed_rows x added one two rows)
        → composed_row l (outer_row x added row) on off ++ composed_rows x added on off rows ≡ composed_row l (outer_row x added row) one two ++ composed_rows x added one two rows
    cases None h k rest = rw (rest h k) refl
    cases (Some true) h k rest = let e : on ≡ one = h refl in rw (rest (λ t. e) k, e) refl
    cases (Some false) h k rest = let e : off ≡ two = k refl in rw (rest h (λ t. e), e) refl

pub intersects_test : (a b : List (Option Bool)) (r : Bool) → length a ≡ length b → (r ≡ true → Intersects a b) × (Intersects a b → r ≡ true) → r ≡ rows_intersect a b
intersects_test a b true e h = sym (test_from_intersects a b e (h.0 refl))
intersects_test a b false e h = sym (false_from_ne_true (rows_intersect a b) (λ t. let k : false ≡ true = h.1 (intersects_from_test a b e t) in cc))

pub products_there : {X : Type 0} (f : X → List (Option Bool)) (row : List (Option Bool)) (others : List X) (i : ℕ) (x : X) → i < length others → x ≡ get_or others i x → rows_intersect row (f x) ≡ true → 0 < length (row_products row (map f (drop i others)))
unfolding row_products
products_there f row [] i x lt e g = absurd (omega arith)
products_there f row (other ∷ others) zero x lt e g = let k : rows_intersect row (f other) ≡ true = sym (ap (λ y. rows_intersect row (f y)) e) ∙ g in rw k (omega arith)
products_there f row (other ∷ others) (suc i) x lt e g = products_there f row others i x (omega arith) e g

pub composed_there : {X : Type 0} (f : X → List (Option Bool)) (x added : ℕ) (on off : List (List (Option Bool))) (rows : List X) (i : ℕ) (r : X) → i < length rows → r ≡ get_or rows i r
    → composed_rows x added on off (map f (drop i rows)) ≡ composed_row (get_or (f r) x None) (outer_row x added (f r)) on off ++ composed_rows x added on off (map f (drop (i + 1) rows))
unfolding composed_rows
composed_there f x added on off [] i r lt e = absurd (omega arith)
composed_there f x added on off (first ∷ rows) zero r lt e =
    let k : drop (0 + 1) (first ∷ rows) ≡ rows = refl in
    rw (k, e) refl
composed_there f x added on off (first ∷ rows) (suc i) r lt e =
    let k : drop (suc i + 1) (first ∷ rows) ≡ drop (i + 1) rows = rw (add-one i, add-one (suc i)) refl in
    rw k (composed_there f x added on off rows i r (omega arith) e)

pub other_bit : (b p : Bool) → bits_equal b p ≡ false → b ≡ not p
other_bit true true h = cc
other_bit true false h = refl
other_bit false true h = refl
other_bit false false h = cc

pub same_bit : (b p : Bool) → b ≡ p → bits_equal b p ≡ true
same_bit true true h = refl
same_bit true false h = cc
same_bit false true h = cc
same_bit false false h = refl

pub cover_own : (inner : Shape) (phase bit : Bool) → bit ≡ phase → cover_for inner phase bit ≡ inner.rows
cover_own inner phase bit e = rw (same_bit bit phase e) refl

pub cover_listed : (inner : Shape) (phase bit : Bool) → (bit ≡ phase → ⊥) → cover_for inner phase bit ≡ list_rows inner.width false inner.rows
cover_listed inner true true h = absurd (h refl)
cover_listed inner true false h = refl
cover_listed inner false true h = refl
cover_listed inner false false h = absurd (h refl)

pub bits_other : (b p : Bool) → (b ≡ p → ⊥) → bits_equal b p ≡ false
bits_other true true h = absurd (h refl)
bits_other true false h = refl
bits_other false true h = refl
bits_other false false h = absurd (h refl)

pub list_within : (x : ℕ) (rows : List (List (Option Bool))) (phase : Bool) (many limit : ℕ) → (asks x true rows ≡ true → bits_equal true phase ≡ false → many ≤ limit) → (asks x false rows ≡ true → bits_equal false phase ≡ false → many ≤ limit)
    → asks x (not phase) rows ≡ true → limit < many → ⊥
list_within x rows true many limit on off a lt = let h : many ≤ limit = off a refl in omega arith
list_within x rows false many limit on off a lt = let h : many ≤ limit = on a refl in omega arith

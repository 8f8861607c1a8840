-- What decides whether rows cover each point of a given row: no row, a row that contains it, and
-- the halves at a dash.
use Rattle.std.proofs.Common.{◌≡◌, ℕ, ◌<◌, ◌+◌, zero, suc, Bool, true, false, ◌||◌, if◌then◌else◌, Option, Some, None, List, [], ◌∷◌, length, get_or, set, map, replicate, refl, sym, ap, ◌∙◌, subst, arith, IsTrue, ◌↔◌}
use Rattle.std.proofs.lemmas.List.{length-set, set-get_or, length-replicate}
use Rattle.std.proofs.lemmas.Bool.{and_from}
use Rattle.sis_base.specs.Rows.{agrees, matches, some_matches, HasWidth}
use Rattle.cube_cover.specs.Covers.{agreeing_rows, IsCovered, IsTautology}
use Rattle.cube_cover.specs.Literals.{all_dashes, some_dashes, no_dash, literal_contains, row_contains, some_contains}
use Rattle.cube_cover.proofs.Points.{and_left, and_right, matches-other}
use Rattle.cube_cover.proofs.Products.{point_of, length-point_of, matches-point_of, contains_at_point}

matches_dashes : (row : List (Option Bool)) (point : List Bool) → all_dashes row ≡ true → matches row point ≡ true
unfolding matches all_dashes
matches_dashes [] point h = refl
matches_dashes (l ∷ ls) [] h = refl
matches_dashes (None ∷ ls) (c ∷ cs) h = matches_dashes ls cs h
matches_dashes (Some x ∷ ls) (c ∷ cs) h = cc

pub matches_some_dashes : (rows : List (List (Option Bool))) (point : List Bool) → some_dashes rows ≡ true → some_matches rows point ≡ true
unfolding some_matches some_dashes
matches_some_dashes [] point h = cc
matches_some_dashes (row ∷ rows) point h = cases (all_dashes row) refl h (λ k. matches_some_dashes rows point k)
  where
    cases : (t : Bool) → all_dashes row ≡ t → (t || some_dashes rows) ≡ true → (some_dashes rows ≡ true → some_matches rows point ≡ true) → (matches row point || some_matches rows point) ≡ true
    cases true e h rest = rw (matches_dashes row point e) refl
    cases false e h rest = or_second (matches row point) (rest h)
      where
        or_second : (t : Bool) → some_matches rows point ≡ true → (t || some_matches rows point) ≡ true
        or_second true k = refl
        or_second false k = k

or_second : (t s : Bool) → s ≡ true → (t || s) ≡ true
or_second true s h = refl
or_second false s h = h

-- the row of dashes has each point, and so what is said of its points is said of all
matches_replicate : (n : ℕ) (p : List Bool) → matches (replicate n None) p ≡ true
unfolding matches
matches_replicate zero p = refl
matches_replicate (suc n) [] = refl
matches_replicate (suc n) (b ∷ bs) = matches_replicate n bs

pub whole_answer : (w : ℕ) (given : List (Option Bool)) (rows : List (List (Option Bool))) (a : Bool) → given ≡ replicate w None
    → IsTrue a ↔ IsCovered given rows → IsTrue a ↔ IsTautology (record { width = w; rows = rows })
whole_answer w given rows a e h =
    let k : length given ≡ w = ap length e ∙ length-replicate w None in (
      λ t p d. h.0 t p (d ∙ sym k) (ap (λ (x : List (Option Bool)). matches x p) e ∙ matches_replicate w p),
      λ t. h.1 (λ p d m. t p (d ∙ k)),
    )

-- without a row
pub empty_answer : (given : List (Option Bool)) (rows : List (List (Option Bool))) → rows ≡ [] → IsTrue false ↔ IsCovered given rows
unfolding some_matches
empty_answer given rows e =
    (λ h. cc, λ h. sym (ap (λ (x : List (List (Option Bool))). some_matches x (point_of given)) e) ∙ h (point_of given) (length-point_of given) (matches-point_of given))

-- a row that is as wide as the given one
pub some_contains_at : {X : Type 0} (f : X → List (Option Bool)) (given : List (Option Bool)) (rows : List X) (i : ℕ) (row : X) → i < length rows → row ≡ get_or rows i row → row_contains (f row) given ≡ true → some_contains given (map f rows) ≡ true
unfolding some_contains
some_contains_at f given [] i row lt e h = absurd (omega arith)
some_contains_at f given (first ∷ rows) zero row lt e h = rw (sym (ap (λ x. row_contains (f x) given) e) ∙ h) refl
some_contains_at f given (first ∷ rows) (suc i) row lt e h = or_second (row_contains (f first) given) _ (some_contains_at f given rows i row (omega arith) e h)

some_contains_point : (given : List (Option Bool)) (rows : List (List (Option Bool))) (p : List Bool) → HasWidth (length given) rows → length p ≡ length given → some_contains given rows ≡ true → matches given p ≡ true → some_matches rows p ≡ true
unfolding some_matches some_contains HasWidth
some_contains_point given [] p w d h m = cc
some_contains_point given (row ∷ rows) p w d h m = cases (row_contains row given) refl h (λ k. some_contains_point given rows p w.1 d k m)
  where
    cases : (t : Bool) → row_contains row given ≡ t → (t || some_contains given rows) ≡ true → (some_contains given rows ≡ true → some_matches rows p ≡ true) → (matches row p || some_matches rows p) ≡ true
    cases true e h rest = rw (contains_at_point row given p (d ∙ sym w.0) w.0 e m) refl
    cases false e h rest = or_second (matches row p) _ (rest h)

pub contained_answer : (given : List (Option Bool)) (rows : List (List (Option Bool))) → HasWidth (length given) rows → some_contains given rows ≡ true → IsTrue true ↔ IsCovered given rows
contained_answer given rows w h = (λ t p d m. some_contains_point given rows p w d h m, λ k. refl)

-- a given row without a dash has one point
full_contains : (row given : List (Option Bool)) → length row ≡ length given → no_dash given ≡ true → matches row (point_of given) ≡ true → row_contains row given ≡ true
unfolding matches row_contains no_dash point_of
full_contains [] given e n m = refl
full_contains (l ∷ ls) [] e n m = refl
full_contains (l ∷ ls) (None ∷ gs) e n m = cc
full_contains (l ∷ ls) (Some x ∷ gs) e n m = and_from _ _ (bit l (and_left _ _ m)) (full_contains ls gs (omega arith) n (and_right (agrees l x) _ m))
  where
    bit : (l : Option Bool) → agrees l x ≡ true → literal_contains l (Some x) ≡ true
    bit None h = refl
    bit (Some y) h = h

full_some : (given : List (Option Bool)) (rows : List (List (Option Bool))) → HasWidth (length given) rows → no_dash given ≡ true → some_matches rows (point_of given) ≡ true → some_contains given rows ≡ true
unfolding some_matches some_contains HasWidth
full_some given [] w n h = cc
full_some given (row ∷ rows) w n h = cases (matches row (point_of given)) refl h (λ k. full_some given rows w.1 n k)
  where
    cases : (t : Bool) → matches row (point_of given) ≡ t → (t || some_matches rows (point_of given)) ≡ true → (some_matches rows (point_of given) ≡ true → some_contains given rows ≡ true) → (row_contains row given || some_contains given rows) ≡ true
    cases true e h rest = rw (full_contains row given w.0 n e) refl
    cases false e h rest = or_second (row_contains row given) _ (rest h)

pub full_answer : (given : List (Option Bool)) (rows : List (List (Option Bool))) (a : Bool) → HasWidth (length given) rows → no_dash given ≡ true → a ≡ some_contains given rows → IsTrue a ↔ IsCovered given rows
full_answer given rows a w n e = (
  λ t p d m. some_contains_point given rows p w d (sym e ∙ t) m,
  λ k. e ∙ full_some given rows w n (k (point_of given) (length-point_of given) (matches-point_of given)),
)

-- the given row with a bit at a dash
set_weaker : (given : List (Option Bool)) (i : ℕ) (b : Bool) (p : List Bool) → get_or given i None ≡ None → matches (set given i (Some b)) p ≡ true → matches given p ≡ true
unfolding matches
set_weaker [] i b p e m = refl
set_weaker (g ∷ gs) i b [] e m = refl
set_weaker (g ∷ gs) zero b (c ∷ cs) e m = rw e (and_right (agrees (Some b) c) (matches gs cs) m)
set_weaker (g ∷ gs) (suc i) b (c ∷ cs) e m = and_from _ _ (and_left _ _ m) (set_weaker gs i b cs e (and_right (agrees g c) _ m))

same_bit : (b c : Bool) → agrees (Some b) c ≡ true → b ≡ c
same_bit true true h = refl
same_bit false false h = refl
same_bit true false h = cc
same_bit false true h = cc

agrees_same : (c : Bool) → agrees (Some c) c ≡ true
agrees_same true = refl
agrees_same false = refl

set_there : (given : List (Option Bool)) (i : ℕ) (b : Bool) (p : List Bool) → i < length given → length p ≡ length given → matches (set given i (Some b)) p ≡ true → set p i b ≡ p
unfolding matches
set_there [] i b p lt d m = absurd (omega arith)
set_there (g ∷ gs) i b [] lt d m = absurd (omega arith)
set_there (g ∷ gs) zero b (c ∷ cs) lt d m = ap (λ (x : Bool). x ∷ cs) (same_bit b c (and_left _ _ m))
set_there (g ∷ gs) (suc i) b (c ∷ cs) lt d m = ap (λ (x : List Bool). c ∷ x) (set_there gs i b cs (omega arith) (omega arith) (and_right (agrees g c) _ m))

set_matches : (given : List (Option Bool)) (i : ℕ) (p : List Bool) → length p ≡ length given → matches given p ≡ true → matches (set given i (Some (get_or p i false))) p ≡ true
unfolding matches
set_matches [] i p d m = refl
set_matches (g ∷ gs) i [] d m = absurd (omega arith)
set_matches (g ∷ gs) zero (c ∷ cs) d m = and_from _ _ (agrees_same c) (and_right (agrees g c) _ m)
set_matches (g ∷ gs) (suc i) (c ∷ cs) d m = and_from _ _ (and_left _ _ m) (set_matches gs i cs (omega arith) (and_right (agrees g c) _ m))

-- the rows that agree with a bit, at the points that have it
agreeing_value : (w : ℕ) (rows : List (List (Option Bool))) (p : List Bool) (i : ℕ) (b : Bool) → HasWidth w rows → i < w → length p ≡ w → set p i b ≡ p → some_matches (agreeing_rows i b rows) p ≡ some_matches rows p
unfolding some_matches agreeing_rows HasWidth
agreeing_value w [] p i b h lt d s = refl
agreeing_value w (row ∷ rows) p i b h lt d s = cases (agrees (get_or row i None) b) refl (agreeing_value w rows p i b h.1 lt d s)
  where
    cases : (t : Bool) → agrees (get_or row i None) b ≡ t → some_matches (agreeing_rows i b rows) p ≡ some_matches rows p
        → some_matches (if t then row ∷ agreeing_rows i b rows else agreeing_rows i b rows) p ≡ (matches row p || some_matches rows p)
    cases true a rest = ap (λ (x : Bool). matches row p || x) rest
    cases false a rest =
        let no : matches row p ≡ false = ap (matches row) (sym s) ∙ matches-other row p i b (omega (arith, h.0)) (omega (arith, h.0)) a in
        rw no rest

pub HasWidth-pick_agreeing : (w : ℕ) (rows : List (List (Option Bool))) (i : ℕ) (b : Bool) → HasWidth w rows → HasWidth w (agreeing_rows i b rows)
unfolding agreeing_rows HasWidth
HasWidth-pick_agreeing w [] i b h = tt
HasWidth-pick_agreeing w (row ∷ rows) i b h = cases (agrees (get_or row i None) b) (HasWidth-pick_agreeing w rows i b h.1)
  where
    cases : (t : Bool) → HasWidth w (agreeing_rows i b rows) → HasWidth w (if t then row ∷ agreeing_rows i b rows else agreeing_rows i b rows)
    cases true rest = (h.0, rest)
    cases false rest = rest

-- where the given row has a literal, the rows that agree with it are enough
pub agreeing_covered : (given : List (Option Bool)) (rows : List (List (Option Bool))) (i : ℕ) (b : Bool) → HasWidth (length given) rows → i < length given → get_or given i None ≡ Some b
    → IsCovered given (agreeing_rows i b rows) ↔ IsCovered given rows
agreeing_covered given rows i b w lt e =
    let there : (p : List Bool) → length p ≡ length given → matches given p ≡ true → set p i b ≡ p = λ p d m. set_there given i b p lt d (ap (λ (x : List (Option Bool)). matches x p) (ap (set given i) (sym e) ∙ set-get_or given i None) ∙ m) in (
      λ t p d m. sym (agreeing_value (length given) rows p i b w lt d (there p d m)) ∙ t p d m,
      λ t p d m. agreeing_value (length given) rows p i b w lt d (there p d m) ∙ t p d m,
    )

-- the halves at a dash
half_covered : (given : List (Option Bool)) (rows : List (List (Option Bool))) (i : ℕ) (b : Bool) → get_or given i None ≡ None → IsCovered given rows → IsCovered (set given i (Some b)) rows
half_covered given rows i b e h p d m = h p (d ∙ length-set given i (Some b)) (set_weaker given i b p e m)

whole_covered : (given : List (Option Bool)) (rows : List (List (Option Bool))) (i : ℕ) → IsCovered (set given i (Some false)) rows → IsCovered (set given i (Some true)) rows → IsCovered given rows
whole_covered given rows i low high p d m = cases (get_or p i false) refl
  where
    at : (b : Bool) → IsCovered (set given i (Some b)) rows → get_or p i false ≡ b → some_matches rows p ≡ true
    at b half e = half p (d ∙ sym (length-set given i (Some b))) (subst (λ (x : Bool). matches (set given i (Some x)) p ≡ true) e (set_matches given i p d m))

    cases : (b : Bool) → get_or p i false ≡ b → some_matches rows p ≡ true
    cases false e = at false low e
    cases true e = at true high e

pub low_answer : (given low : List (Option Bool)) (rows : List (List (Option Bool))) (i : ℕ) (a : Bool) → get_or given i None ≡ None
    → low ≡ set given i (Some false) → IsTrue a ↔ IsCovered low rows → a ≡ false → IsTrue a ↔ IsCovered given rows
low_answer given low rows i a n e h z =
    (λ t. cc, λ k. h.1 (subst (λ (x : List (Option Bool)). IsCovered x rows) (sym e) (half_covered given rows i false n k)))

pub both_answer : (given low high : List (Option Bool)) (rows : List (List (Option Bool))) (i : ℕ) (a b : Bool) → get_or given i None ≡ None
    → low ≡ set given i (Some false) → high ≡ set given i (Some true)
    → IsTrue a ↔ IsCovered low rows → a ≡ true → IsTrue b ↔ IsCovered high rows → IsTrue b ↔ IsCovered given rows
both_answer given low high rows i a b n e c h t k = (
  λ u. whole_covered given rows i (subst (λ (x : List (Option Bool)). IsCovered x rows) e (h.0 t)) (subst (λ (x : List (Option Bool)). IsCovered x rows) c (k.0 u)),
  λ u. k.1 (subst (λ (x : List (Option Bool)). IsCovered x rows) (sym c) (half_covered given rows i true n u)),
)

-- a bit at a dash leaves fewer dashes
abbrev pub dash_of : Option Bool → ℕ
dash_of None = 1
dash_of (Some literal) = 0

unfoldable pub dash_count : List (Option Bool) → ℕ
dash_count [] = 0
dash_count (place ∷ places) = dash_of place + dash_count places

pub fewer_dashes : (given : List (Option Bool)) (i : ℕ) (b : Bool) → i < length given → get_or given i None ≡ None → dash_count (set given i (Some b)) < dash_count given
unfolding dash_count
fewer_dashes [] i b lt e = absurd (omega arith)
fewer_dashes (g ∷ gs) zero b lt e = rw e (omega arith)
fewer_dashes (g ∷ gs) (suc i) b lt e = omega (arith, fewer_dashes gs i b (omega arith) e)

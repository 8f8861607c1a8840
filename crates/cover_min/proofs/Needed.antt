-- Rows that are kept, each of which has a point of its own.
use Rattle.std.proofs.Common.{◌≡◌, ℕ, Bool, true, false, not, ◌&&◌, ◌||◌, if◌then◌else◌, Option, List, [], ◌∷◌, ◌++◌, refl, sym, ap, ◌∙◌, subst, ◌⊎◌, inl, inr}
use Rattle.std.specs.List.{AllByRecursion}
use Rattle.std.proofs.lemmas.Bool.{or_left, or_right, and_from}
use Rattle.sis_base.specs.Rows.{matches, some_matches, HasWidth, IsPoint}
use Rattle.cube_cover.proofs.Points.{and_left, and_right, bool_cases, HasWidth-push, value-append}
use Rattle.cover_min.specs.Points.{has_own_point, PointOf}
use Rattle.cover_min.specs.Minimum.{with_needed, needed_behind}
use Rattle.cover_min.proofs.Points.{has_point_found, has_point_same, no_point_at}

-- what holds of each row holds of each that is left
pub all_needed : (P : List (Option Bool) → Type 0) (on : List Bool → Bool) (kept rows : List (List (Option Bool))) → AllByRecursion P kept → AllByRecursion P rows → AllByRecursion P (needed_behind on kept rows)
unfolding needed_behind with_needed
all_needed P on kept [] h k = h
all_needed P on kept (row ∷ rest) h k = cases (has_own_point on row (kept ++ rest)) (all_needed P on (kept ++ row ∷ []) rest (pushed kept h) k.1) (all_needed P on kept rest h k.1)
  where
    pushed : (kept : List (List (Option Bool))) → AllByRecursion P kept → AllByRecursion P (kept ++ row ∷ [])
    pushed [] h = (k.0, tt)
    pushed (first ∷ others) h = (h.0, pushed others h.1)

    cases : (t : Bool) → AllByRecursion P (needed_behind on (kept ++ row ∷ []) rest) → AllByRecursion P (needed_behind on kept rest) → AllByRecursion P (needed_behind on (if t then kept ++ row ∷ [] else kept) rest)
    cases true stays goes = stays
    cases false stays goes = goes

pub HasWidth-needed : (on : List Bool → Bool) (w : ℕ) (kept rows : List (List (Option Bool))) → HasWidth w kept → HasWidth w rows → HasWidth w (needed_behind on kept rows)
unfolding needed_behind with_needed HasWidth
HasWidth-needed on w kept [] h k = h
HasWidth-needed on w kept (row ∷ rest) h k = cases (has_own_point on row (kept ++ rest)) (HasWidth-needed on w (kept ++ row ∷ []) rest (HasWidth-push w kept row h k.0) k.1) (HasWidth-needed on w kept rest h k.1)
  where
    cases : (t : Bool) → HasWidth w (needed_behind on (kept ++ row ∷ []) rest) → HasWidth w (needed_behind on kept rest) → HasWidth w (needed_behind on (if t then kept ++ row ∷ [] else kept) rest)
    cases true stays goes = stays
    cases false stays goes = goes

-- a row after the kept ones, before the rest
pub value_between : (kept rest : List (List (Option Bool))) (row : List (Option Bool)) (p : List Bool) → some_matches ((kept ++ row ∷ []) ++ rest) p ≡ some_matches (kept ++ row ∷ rest) p
unfolding some_matches
value_between [] rest row p = refl
value_between (first ∷ others) rest row p = ap (λ (x : Bool). matches first p || x) (value_between others rest row p)

-- each point at which the function must be 1 and that some row has is one of a row that is left
pub on-needed : (on : List Bool → Bool) (w : ℕ) (kept rows : List (List (Option Bool))) (p : List Bool) → HasWidth w rows → IsPoint w p → on p ≡ true → some_matches (kept ++ rows) p ≡ true → some_matches (needed_behind on kept rows) p ≡ true
unfolding needed_behind with_needed HasWidth some_matches
on-needed on w kept [] p wide d o h = bare kept h
  where
    bare : (kept : List (List (Option Bool))) → some_matches (kept ++ []) p ≡ true → some_matches kept p ≡ true
    bare kept h = cases (some_matches kept p) refl (sym (value-append kept [] p) ∙ h)
      where
        cases : (t : Bool) → some_matches kept p ≡ t → (t || false) ≡ true → some_matches kept p ≡ true
        cases true e k = e
        cases false e k = cc
on-needed on w kept (row ∷ rest) p wide d o h =
    cases (has_own_point on row (kept ++ rest)) refl (λ k. on-needed on w (kept ++ row ∷ []) rest p wide.1 d o k) (λ k. on-needed on w kept rest p wide.1 d o k)
  where
    others : some_matches (kept ++ rest) p ≡ (some_matches kept p || some_matches rest p)
    others = value-append kept rest p

    whole : (some_matches kept p || (matches row p || some_matches rest p)) ≡ true
    whole = sym (value-append kept (row ∷ rest) p) ∙ h

    covered : has_own_point on row (kept ++ rest) ≡ false → (a m b : Bool) → matches row p ≡ m → some_matches (kept ++ rest) p ≡ (a || b) → (a || (m || b)) ≡ true → some_matches (kept ++ rest) p ≡ true
    covered none true m b e f g = f
    covered none false false b e f g = f ∙ g
    covered none false true b e f g = owned (bool_cases (some_matches (kept ++ rest) p))
      where
        owned : (some_matches (kept ++ rest) p ≡ true) ⊎ (some_matches (kept ++ rest) p ≡ false) → some_matches (kept ++ rest) p ≡ true
        owned (inl t) = t
        owned (inr t) =
            let there : (on p && not (some_matches (kept ++ rest) p)) ≡ true = and_from _ _ o (ap not t) in
            let clash : true ≡ false = sym there ∙ no_point_at (λ point. on point && not (some_matches (kept ++ rest) point)) row p none (d ∙ sym wide.0) e in absurd cc

    cases : (t : Bool) → has_own_point on row (kept ++ rest) ≡ t
        → (some_matches ((kept ++ row ∷ []) ++ rest) p ≡ true → some_matches (needed_behind on (kept ++ row ∷ []) rest) p ≡ true)
        → (some_matches (kept ++ rest) p ≡ true → some_matches (needed_behind on kept rest) p ≡ true)
        → some_matches (needed_behind on (if t then kept ++ row ∷ [] else kept) rest) p ≡ true
    cases true e stays goes = stays (value_between kept rest row p ∙ h)
    cases false e stays goes = goes (covered e (some_matches kept p) (matches row p) (some_matches rest p) refl others whole)

-- a point of a row at which the function must be 1 and that others do not have is one that fewer
-- others do not have
pub own_of_fewer : (on others fewer : List Bool → Bool) (row : List (Option Bool)) → ((p : List Bool) → fewer p ≡ true → others p ≡ true) → PointOf (λ p. on p && not (others p)) row → PointOf (λ p. on p && not (fewer p)) row
own_of_fewer on others fewer row h found = record {
  point = found.point;
  wide = found.wide;
  within = found.within;
  holds = cases (bool_cases (fewer found.point));
}
  where
    cases : (fewer found.point ≡ true) ⊎ (fewer found.point ≡ false) → (on found.point && not (fewer found.point)) ≡ true
    cases (inl t) =
        let there : not (others found.point) ≡ true = and_right (on found.point) _ found.holds in
        let clash : false ≡ true = sym (ap not (h found.point t)) ∙ there in absurd cc
    cases (inr t) = and_from _ _ (and_left _ _ found.holds) (ap not t)

-- each row has a point at which the function must be 1 and that no other row has, nor what is
-- before or after them
abbrev pub EachNeeded : (List Bool → Bool) → (List Bool → Bool) → List (List (Option Bool)) → (List Bool → Bool) → Type 0
EachNeeded on before [] behind = Unit {0}
EachNeeded on before (row ∷ rows) behind =
    PointOf (λ p. on p && not (before p || (some_matches rows p || behind p))) row × EachNeeded on (λ p. before p || matches row p) rows behind

or_kept : (a b c : Bool) → (b ≡ true → c ≡ true) → (a || b) ≡ true → (a || c) ≡ true
or_kept true b c h k = refl
or_kept false b c h k = h k

pub each_of_fewer : (on before behind fewer : List Bool → Bool) (rows : List (List (Option Bool))) → ((p : List Bool) → fewer p ≡ true → behind p ≡ true) → EachNeeded on before rows behind → EachNeeded on before rows fewer
each_of_fewer on before behind fewer [] h k = tt
each_of_fewer on before behind fewer (row ∷ rows) h k = (
  own_of_fewer on _ _ row (λ p t. or_kept (before p) _ _ (λ s. or_kept (some_matches rows p) _ _ (h p) s) t) k.0,
  each_of_fewer on (λ p. before p || matches row p) behind fewer rows h k.1,
)

or_moved : (a b : Bool) → (a || (false || b)) ≡ true → ((a || false) || b) ≡ true
or_moved true b h = refl
or_moved false b h = h

or_turned : (a b c : Bool) → (a || (b || c)) ≡ ((a || b) || c)
or_turned true b c = refl
or_turned false b c = refl

-- a row of which that holds is appended
pub each_pushed : (on before behind : List Bool → Bool) (rows : List (List (Option Bool))) (row : List (Option Bool))
    → EachNeeded on before rows (λ p. matches row p || behind p) → PointOf (λ p. on p && not ((before p || some_matches rows p) || behind p)) row → EachNeeded on before (rows ++ row ∷ []) behind
unfolding some_matches
each_pushed on before behind [] row h own = (own_of_fewer on _ _ row (λ p t. or_moved (before p) (behind p) t) own, tt)
each_pushed on before behind (first ∷ rows) row h own = (
  own_of_fewer on _ _ first (λ p t. subst (λ (x : Bool). (before p || x) ≡ true) (moved p) t) h.0,
  each_pushed on (λ p. before p || matches first p) behind rows row h.1
      (own_of_fewer on _ _ row (λ p t. subst (λ (x : Bool). (x || behind p) ≡ true) (sym (or_turned (before p) (matches first p) (some_matches rows p))) t) own),
)
  where
    moved : (p : List Bool) → (some_matches (rows ++ row ∷ []) p || behind p) ≡ (some_matches rows p || (matches row p || behind p))
    moved p = ap (λ (x : Bool). x || behind p) (value-append rows (row ∷ []) p) ∙ split (some_matches rows p) (matches row p)
      where
        split : (a m : Bool) → ((a || (m || false)) || behind p) ≡ (a || (m || behind p))
        split true m = refl
        split false true = refl
        split false false = refl

pub each_found : (on before behind : List Bool → Bool) (rows after : List (List (Option Bool))) (row : List (Option Bool)) → EachNeeded on before (rows ++ row ∷ after) behind → PointOf (λ p. on p && not (before p || some_matches (rows ++ after) p)) row
unfolding some_matches
each_found on before behind [] after row h = own_of_fewer on _ _ row (λ p t. or_kept (before p) _ _ (λ s. or_left _ (behind p) s) t) h.0
each_found on before behind (first ∷ rows) after row h =
    own_of_fewer on _ _ row (λ p t. sym (or_turned (before p) (matches first p) (some_matches (rows ++ after) p)) ∙ t) (each_found on (λ p. before p || matches first p) behind rows after row h.1)

pub each-needed : (on : List Bool → Bool) (kept rows : List (List (Option Bool))) → EachNeeded on (λ p. false) kept (some_matches rows) → EachNeeded on (λ p. false) (needed_behind on kept rows) (λ p. false)
unfolding needed_behind with_needed some_matches
each-needed on kept [] h = each_of_fewer on _ _ _ kept (λ p t. t) h
each-needed on kept (row ∷ rest) h =
    cases (has_own_point on row (kept ++ rest)) refl (λ k. each-needed on (kept ++ row ∷ []) rest k) (λ k. each-needed on kept rest k)
  where
    own : has_own_point on row (kept ++ rest) ≡ true → PointOf (λ p. on p && not ((false || some_matches kept p) || some_matches rest p)) row
    own e = own_of_fewer on _ _ row (λ p t. value-append kept rest p ∙ t) (has_point_found (λ p. on p && not (some_matches (kept ++ rest) p)) row e)

    cases : (t : Bool) → has_own_point on row (kept ++ rest) ≡ t
        → (EachNeeded on (λ p. false) (kept ++ row ∷ []) (some_matches rest) → EachNeeded on (λ p. false) (needed_behind on (kept ++ row ∷ []) rest) (λ p. false))
        → (EachNeeded on (λ p. false) kept (some_matches rest) → EachNeeded on (λ p. false) (needed_behind on kept rest) (λ p. false))
        → EachNeeded on (λ p. false) (needed_behind on (if t then kept ++ row ∷ [] else kept) rest) (λ p. false)
    cases true e stays goes = stays (each_pushed on (λ p. false) (some_matches rest) kept row h (own e))
    cases false e stays goes = goes (each_of_fewer on _ _ _ kept (λ p t. or_right (matches row p) _ t) h)

pub irredundant-needed : (on : List Bool → Bool) (rows before after : List (List (Option Bool))) (row : List (Option Bool)) → needed_behind on [] rows ≡ before ++ row ∷ after → PointOf (λ p. on p && not (some_matches (before ++ after) p)) row
irredundant-needed on rows before after row e =
    each_found on (λ p. false) (λ p. false) before after row (subst (λ (x : List (List (Option Bool))). EachNeeded on (λ p. false) x (λ p. false)) e (each-needed on [] rows tt))

-- tests that are the same at each point of the width leave the same rows
pub needed_same : (on other : List Bool → Bool) (w : ℕ) (kept rows : List (List (Option Bool))) → HasWidth w rows → ((p : List Bool) → IsPoint w p → on p ≡ other p) → needed_behind on kept rows ≡ needed_behind other kept rows
unfolding needed_behind with_needed HasWidth
needed_same on other w kept [] wide h = refl
needed_same on other w kept (row ∷ rest) wide h =
    cases (has_own_point on row (kept ++ rest)) (has_own_point other row (kept ++ rest)) test (needed_same on other w (kept ++ row ∷ []) rest wide.1 h) (needed_same on other w kept rest wide.1 h)
  where
    test : has_own_point on row (kept ++ rest) ≡ has_own_point other row (kept ++ rest)
    test = has_point_same _ _ row (λ p d m. ap (λ (x : Bool). x && not (some_matches (kept ++ rest) p)) (h p (d ∙ wide.0)))

    cases : (t s : Bool) → t ≡ s → needed_behind on (kept ++ row ∷ []) rest ≡ needed_behind other (kept ++ row ∷ []) rest → needed_behind on kept rest ≡ needed_behind other kept rest
        → needed_behind on (if t then kept ++ row ∷ [] else kept) rest ≡ needed_behind other (if s then kept ++ row ∷ [] else kept) rest
    cases true true e stays goes = stays
    cases false false e stays goes = goes
    cases true false e stays goes = cc
    cases false true e stays goes = cc

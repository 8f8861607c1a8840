-- The quotient as a list is that of weak division.
use Rattle.std.proofs.Common.{◌≡◌, ◌⊎◌, ℕ, ◌+◌, ◌≤◌, Bool, true, false, not, cond, Option, Some, List, [], ◌∷◌, map, filter, length, refl, sym, ap, ◌∙◌, subst, inl, inr, arith}
use Rattle.std.specs.List.{position_from, list_all, list_any}
use Rattle.std.proofs.lemmas.Bool.{and_parts, and_from, or_cases, or_left, or_right, not-true, not_from_false, false≢true, false_from_ne_true}
use Rattle.sis_base.specs.Rows.{HasWidth}
use Rattle.alg_div.specs.Cubes.{Has, times, row_eq}
use Rattle.alg_div.specs.Quotient.{IsTerm, Rises, IsQuotientBy, IsQuotient}
use Rattle.alg_div.specs.Steps.{strip, support}
use Rattle.alg_div.proofs.Cubes.{length-strip}
use Rattle.alg_div.proofs.Lists.{Has-map, same_from_eq, eq_from_same}
use Rattle.alg_div.proofs.Terms.{term-is, strip-apart, width-has}
use Rattle.alg_div.proofs.Laws.{quotient-one}
use Rattle.alg_tables.specs.Dividing.{firsts, is_made, quotient}

-- ---- lists: the items of a part of a list, and of an image

pub kept_has : {X : Type 0} (test : X → Bool) (xs : List X) (x : X) → Has x (filter test xs) → Has x xs × (test x ≡ true)
kept_has test [] x m = absurd m
kept_has test (first ∷ xs) x m = cases (test first) refl m (kept_has test xs x)
  where
    cases : (b : Bool) → test first ≡ b → Has x (cond b (first ∷ filter test xs) (filter test xs)) → (Has x (filter test xs) → Has x xs × (test x ≡ true)) → Has x (first ∷ xs) × (test x ≡ true)
    cases true e k more = elim k as (λ _. Has x (first ∷ xs) × (test x ≡ true)) [ inl same ↦ (inl same, ap test same ∙ e) | inr n ↦ (let p = more n in (inr p.0, p.1)) ]
    cases false e k more = let p = more k in (inr p.0, p.1)

pub has_kept : {X : Type 0} (test : X → Bool) (xs : List X) (x : X) → Has x xs → test x ≡ true → Has x (filter test xs)
has_kept test [] x m h = absurd m
has_kept test (first ∷ xs) x m h = cases (test first) refl m (λ k. has_kept test xs x k h)
  where
    cases : (b : Bool) → test first ≡ b → Has x (first ∷ xs) → (Has x xs → Has x (filter test xs)) → Has x (cond b (first ∷ filter test xs) (filter test xs))
    cases true e k more = elim k as (λ _. Has x (first ∷ filter test xs)) [ inl same ↦ inl same | inr n ↦ inr (more n) ]
    cases false e k more = elim k as (λ _. Has x (filter test xs)) [ inl same ↦ absurd (false≢true (sym e ∙ ap test (sym same) ∙ h)) | inr n ↦ more n ]

pub image_has : {X Z : Type 0} (f : X → Z) (xs : List X) (z : Z) → Has z (map f xs) → (x : X) × Has x xs × (z ≡ f x)
image_has f [] z m = absurd m
image_has f (first ∷ xs) z m =
    elim m as (λ _. (x : _) × Has x (first ∷ xs) × (z ≡ f x)) [ inl e ↦ (first, inl refl, e) | inr n ↦ (let p = image_has f xs z n in (p.0, inr p.1, p.2)) ]

-- some row is equal to one exactly if it is among them
pub any_has : (row : List (Option Bool)) (rows : List (List (Option Bool))) → list_any (row_eq row) rows ≡ true → Has row rows
any_has row [] h = absurd (false≢true h)
any_has row (first ∷ rows) h =
    elim (or_cases (row_eq row first) (list_any (row_eq row) rows) h) as (λ _. Has row (first ∷ rows)) [ inl e ↦ inl (same_from_eq row first e) | inr n ↦ inr (any_has row rows n) ]

pub has_any : (row : List (Option Bool)) (rows : List (List (Option Bool))) → Has row rows → list_any (row_eq row) rows ≡ true
has_any row [] m = absurd m
has_any row (first ∷ rows) m =
    elim m as (λ _. list_any (row_eq row) (first ∷ rows) ≡ true) [
      | inl e ↦ or_left (row_eq row first) (list_any (row_eq row) rows) (eq_from_same row first e)
      | inr n ↦ or_right (row_eq row first) (list_any (row_eq row) rows) (has_any row rows n)
    ]

pub all_test : {X : Type 0} (test : X → Bool) (xs : List X) (x : X) → list_all test xs ≡ true → Has x xs → test x ≡ true
all_test test [] x h m = absurd m
all_test test (first ∷ xs) x h m =
    let parts = and_parts (test first) (list_all test xs) h in
    elim m as (λ _. test x ≡ true) [ inl e ↦ ap test e ∙ parts.0 | inr n ↦ all_test test xs x parts.1 n ]

pub all_from : {X : Type 0} (test : X → Bool) (xs : List X) → ((x : X) → Has x xs → test x ≡ true) → list_all test xs ≡ true
all_from test [] h = refl
all_from test (first ∷ xs) h = and_from (test first) (list_all test xs) (h first (inl refl)) (all_from test xs (λ x m. h x (inr m)))

-- ---- rows whose positions increase

rises_lower : (low least high : ℕ) (p : List (Option Bool) → Option ℕ) (xs : List (List (Option Bool))) → least ≤ low → Rises low high p xs → Rises least high p xs
unfolding Rises
rises_lower low least high p [] below h = omega (arith, below, h)
rises_lower low least high p (x ∷ xs) below (i, lt, at, rest) = (i, omega (arith, below, lt), at, rest)

rises_bound : (low high : ℕ) (p : List (Option Bool) → Option ℕ) (xs : List (List (Option Bool))) → Rises low high p xs → low ≤ high
unfolding Rises
rises_bound low high p [] h = h
rises_bound low high p (x ∷ xs) (i, lt, at, rest) = omega (arith, lt, rises_bound (i + 1) high p xs rest)

-- positions in a part of them increase too, and so do other positions that agree there
pub rises_kept : (low high : ℕ) (p q : List (Option Bool) → Option ℕ) (test : List (Option Bool) → Bool) (xs : List (List (Option Bool)))
    → ((x : List (Option Bool)) → test x ≡ true → q x ≡ p x) → Rises low high p xs → Rises low high q (filter test xs)
unfolding Rises
rises_kept low high p q test [] same h = h
rises_kept low high p q test (x ∷ xs) same (i, lt, at, rest) = cases (test x) refl (rises_kept (i + 1) high p q test xs same rest)
  where
    cases : (b : Bool) → test x ≡ b → Rises (i + 1) high q (filter test xs) → Rises low high q (cond b (x ∷ filter test xs) (filter test xs))
    cases true e more = (i, lt, same x e ∙ at, more)
    cases false e more = rises_lower (i + 1) low high q (filter test xs) (omega (arith, lt)) more

-- so are images, by positions that agree at them
pub rises_image : (low high : ℕ) (p q : List (Option Bool) → Option ℕ) (f : List (Option Bool) → List (Option Bool)) (xs : List (List (Option Bool)))
    → ((x : List (Option Bool)) → Has x xs → q (f x) ≡ p x) → Rises low high p xs → Rises low high q (map f xs)
unfolding Rises
rises_image low high p q f [] same h = h
rises_image low high p q f (x ∷ xs) same (i, lt, at, rest) = (i, lt, same x (inl refl) ∙ at, rises_image (i + 1) high p q f xs (λ y m. same y (inr m)) rest)

-- ---- the distinct rows

eq_turned : (one other : List (Option Bool)) → row_eq one other ≡ false → row_eq other one ≡ false
eq_turned one other h = false_from_ne_true (row_eq other one) (λ e. false≢true (sym h ∙ eq_from_same one other (sym (same_from_eq other one e))))

pub firsts_has : (rows : List (List (Option Bool))) (row : List (Option Bool)) → Has row (firsts rows) → Has row rows
unfolding firsts
firsts_has [] row m = m
firsts_has (first ∷ rows) row m =
    elim m as (λ _. Has row (first ∷ rows)) [ inl e ↦ inl e | inr n ↦ inr (firsts_has rows row (kept_has (λ other. not (row_eq first other)) (firsts rows) row n).0) ]

pub has_firsts : (rows : List (List (Option Bool))) (row : List (Option Bool)) → Has row rows → Has row (firsts rows)
unfolding firsts
has_firsts [] row m = m
has_firsts (first ∷ rows) row m = cases (row_eq first row) refl (elim m as (λ _. (row ≡ first) ⊎ Has row (firsts rows)) [ inl e ↦ inl e | inr n ↦ inr (has_firsts rows row n) ])
  where
    cases : (b : Bool) → row_eq first row ≡ b → (row ≡ first) ⊎ Has row (firsts rows) → Has row (first ∷ filter (λ other. not (row_eq first other)) (firsts rows))
    cases true e k = inl (sym (same_from_eq first row e))
    cases false e k =
        elim k as (λ _. Has row (first ∷ filter (λ other. not (row_eq first other)) (firsts rows))) [
          | inl same ↦ inl same
          | inr n ↦ inr (has_kept (λ other. not (row_eq first other)) (firsts rows) row n (not_from_false (row_eq first row) e))
        ]

firsts_rise_from : (n high : ℕ) (rows : List (List (Option Bool))) → high ≡ n + length rows → Rises n high (λ row. position_from (row_eq row) n rows) (firsts rows)
unfolding Rises firsts
firsts_rise_from n high [] e = omega (arith, e)
firsts_rise_from n high (first ∷ rows) e = (
  n,
  omega arith,
  ap (λ (b : Bool). cond b (Some n) (position_from (row_eq first) (n + 1) rows)) (eq_from_same first first refl),
  rises_kept (n + 1) high (λ row. position_from (row_eq row) (n + 1) rows) (λ row. position_from (row_eq row) n (first ∷ rows)) (λ other. not (row_eq first other)) (firsts rows)
      (λ row h. ap (λ (b : Bool). cond b (Some n) (position_from (row_eq row) (n + 1) rows)) (eq_turned first row (not-true (row_eq first row) h)))
      (firsts_rise_from (n + 1) high rows (omega (arith, e))),
)

pub firsts_rise : (rows : List (List (Option Bool))) → Rises 0 (length rows) (λ row. position_from (row_eq row) 0 rows) (firsts rows)
firsts_rise rows = firsts_rise_from 0 (length rows) rows (omega arith)

-- ---- the quotient

module _ (width : ℕ) (f : List (List (Option Bool))) (k : List (Option Bool)) (ks : List (List (Option Bool))) where
  cube_of : List (Option Bool) → List (Option Bool)
  cube_of row = strip (support width (k ∷ ks)) row

  makes : List (Option Bool) → Bool
  makes = is_made width f k (k ∷ ks)

  -- a row that is made is the product of its cube and the first cube, and the other products of its
  -- cube are rows too
  made_row : (row : List (Option Bool)) → makes row ≡ true → (times (cube_of row) k ≡ row) × ((other : List (Option Bool)) → Has other (k ∷ ks) → Has (times (cube_of row) other) f)
  unfolding makes cube_of
  made_row row h =
      let parts = and_parts (row_eq (times (cube_of row) k) row) (list_all (λ other. list_any (row_eq (times (cube_of row) other)) f) (k ∷ ks)) h in (
        same_from_eq (times (cube_of row) k) row parts.0,
        (λ other m. any_has (times (cube_of row) other) f (all_test (λ other. list_any (row_eq (times (cube_of row) other)) f) (k ∷ ks) other parts.1 m)),
      )

  row_made : (row : List (Option Bool)) → times (cube_of row) k ≡ row → ((other : List (Option Bool)) → Has other (k ∷ ks) → Has (times (cube_of row) other) f) → makes row ≡ true
  unfolding makes cube_of
  row_made row e h =
      and_from (row_eq (times (cube_of row) k) row) (list_all (λ other. list_any (row_eq (times (cube_of row) other)) f) (k ∷ ks)) (eq_from_same (times (cube_of row) k) row e)
      (all_from (λ other. list_any (row_eq (times (cube_of row) other)) f) (k ∷ ks) (λ other m. has_any (times (cube_of row) other) f (h other m)))

  is_by : HasWidth width f → IsQuotientBy width f k (k ∷ ks) (map cube_of (filter makes (firsts f)))
  unfolding cube_of
  is_by wide = record {
    only = λ cube m.
        let (row, among, e) = image_has cube_of (filter makes (firsts f)) cube m in
        let (here, made) = kept_has makes (firsts f) row among in
        subst (λ (c : List (Option Bool)). IsTerm width f (k ∷ ks) c) (sym e) (record {
          wide = length-strip (support width (k ∷ ks)) row ∙ width-has width f row wide (firsts_has f row here);
          apart = strip-apart width (k ∷ ks) row;
          rows = (made_row row made).1;
        });
    every = λ cube term.
        let row : List (Option Bool) = times cube k in
        let among : Has row f = term.rows k (inl refl) in
        let e : cube_of row ≡ cube = term-is width (k ∷ ks) cube k row (term.wide ∙ sym (width-has width f row wide among)) term.apart (inl refl) refl in
        let made : makes row ≡ true = row_made row (ap (λ (c : List (Option Bool)). times c k) e) (λ other m. subst (λ (c : List (Option Bool)). Has (times c other) f) (sym e) (term.rows other m)) in
        subst (λ (c : List (Option Bool)). Has c (map cube_of (filter makes (firsts f)))) e (Has-map cube_of row (filter makes (firsts f)) (has_kept makes (firsts f) row (has_firsts f row among) made));
    order = rises_image 0 (length f) (λ row. position_from (row_eq row) 0 f) (λ cube. position_from (row_eq (times cube k)) 0 f) cube_of (filter makes (firsts f))
        (λ row m. ap (λ (r : List (Option Bool)). position_from (row_eq r) 0 f) (made_row row (kept_has makes (firsts f) row m).1).0)
        (rises_kept 0 (length f) (λ row. position_from (row_eq row) 0 f) (λ row. position_from (row_eq row) 0 f) makes (firsts f) (λ row h. refl) (firsts_rise f));
  }

pub quotient_is : (width : ℕ) (f d : List (List (Option Bool))) → HasWidth width f → IsQuotient width f d (quotient width f d)
unfolding quotient strip cube_of times makes
quotient_is width f [] wide = refl
quotient_is width f (k ∷ ks) wide = is_by width f k ks wide

-- any list that is the quotient is this one
pub quotient_found : (width : ℕ) (f d q : List (List (Option Bool))) → HasWidth width f → IsQuotient width f d q → q ≡ quotient width f d
quotient_found width f d q wide h = quotient-one width f d q (quotient width f d) h (quotient_is width f d wide)

-- A search that explores each kernel has found them all, and finds nothing else.
use Rattle.std.proofs.Common.{◌≡◌, ℕ, ◌+◌, ◌<◌, ◌≤◌, zero, suc, Bool, true, false, if◌then◌else◌, Option, Some, None, List, [], ◌∷◌, length, get_or, refl, sym, ap, ◌∙◌, subst, arith, inl, inr, ◌⊎◌}
use Rattle.std.proofs.lemmas.List.{length-map}
use Rattle.sis_base.specs.Rows.{HasWidth}
use Rattle.alg_div.specs.Cubes.{Has, times}
use Rattle.alg_div.specs.Steps.{without, strip}
use Rattle.alg_div.proofs.Cubes.{get_or-times, length-times, get_or-strip, length-strip, ext}
use Rattle.alg_div.proofs.Terms.{width-has}
use Rattle.alg_kernel.specs.Kernels.{NoCommon}
use Rattle.cube_cover.specs.Literals.{has_literal, literal_product}
use Rattle.alg_kernel.specs.Search.{holds, over, holding_rows, common_cube, IsCubeFree, IsFound, kernel_at, IsExplored}
use Rattle.alg_kernel.proofs.Parts.{is-has_literal, holds-at, holds-from, Has-over, over-width, Has-holding_rows, holding_rows-has, common_cube-at, common_cube-all, common_cube-length, kernel-rows, start-rows, free-of-common_cube, AreApart, over-over}

some_none : (b : Bool) (x : Option Bool) → x ≡ Some b → x ≡ None → ⊥
some_none b x h k = cc

some_some : (a b : Bool) (x : Option Bool) → x ≡ Some a → x ≡ Some b → a ≡ b
some_some a b x h k = cc

some-or : (x : Option Bool) → (x ≡ None) ⊎ ((b : Bool) × (x ≡ Some b))
some-or None = inl refl
some-or (Some b) = inr (b, refl)

-- how many literals a cube has; a cube without some of them has fewer
unfoldable pub literals : List (Option Bool) → ℕ
literals [] = 0
literals (None ∷ places) = literals places
literals (Some b ∷ places) = 1 + literals places

literals-strip : (u c : List (Option Bool)) → literals (strip u c) ≤ literals c
unfolding literals strip
literals-strip [] c = omega arith
literals-strip (x ∷ xs) [] = omega arith
literals-strip (None ∷ xs) (None ∷ ys) = literals-strip xs ys
literals-strip (None ∷ xs) (Some b ∷ ys) = omega (arith, literals-strip xs ys)
literals-strip (Some a ∷ xs) (None ∷ ys) = literals-strip xs ys
literals-strip (Some a ∷ xs) (Some b ∷ ys) = omega (arith, literals-strip xs ys)

literals-less : (u c : List (Option Bool)) (i : ℕ) (a b : Bool) → get_or u i None ≡ Some a → get_or c i None ≡ Some b → literals (strip u c) < literals c
unfolding literals strip
literals-less [] c i a b h k = absurd (some_none a None h refl)
literals-less (x ∷ xs) [] i a b h k = absurd (some_none b None k refl)
literals-less (None ∷ xs) (y ∷ ys) zero a b h k = absurd (some_none a None h refl)
literals-less (Some x ∷ xs) (None ∷ ys) zero a b h k = absurd (some_none b None k refl)
literals-less (Some x ∷ xs) (Some y ∷ ys) zero a b h k = omega (arith, literals-strip xs ys)
literals-less (None ∷ xs) (None ∷ ys) (suc i) a b h k = literals-less xs ys i a b h k
literals-less (None ∷ xs) (Some y ∷ ys) (suc i) a b h k = omega (arith, literals-less xs ys i a b h k)
literals-less (Some x ∷ xs) (None ∷ ys) (suc i) a b h k = literals-less xs ys i a b h k
literals-less (Some x ∷ xs) (Some y ∷ ys) (suc i) a b h k = omega (arith, literals-less xs ys i a b h k)

literal-or : (c : List (Option Bool)) → ((i : ℕ) → get_or c i None ≡ None) ⊎ ((i : ℕ) × (b : Bool) × (get_or c i None ≡ Some b))
literal-or [] = inl (λ i. refl)
literal-or (Some b ∷ ys) = inr (0, b, refl)
literal-or (None ∷ ys) = elim (literal-or ys) as (λ _. ((i : ℕ) → get_or (None ∷ ys) i None ≡ None) ⊎ ((i : ℕ) × (b : Bool) × (get_or (None ∷ ys) i None ≡ Some b))) [ inl h ↦ inl (none-cons ys h) | inr p ↦ inr (suc p.0, p.1, p.2) ]
  where
    none-cons : (ys : List (Option Bool)) → ((i : ℕ) → get_or ys i None ≡ None) → (i : ℕ) → get_or (None ∷ ys) i None ≡ None
    none-cons ys h zero = refl
    none-cons ys h (suc i) = h i

-- a cube without literals
over-none : (c : List (Option Bool)) (rs : List (List (Option Bool))) → ((i : ℕ) → get_or c i None ≡ None) → over c rs ≡ rs
unfolding over
over-none c [] h = refl
over-none c (row ∷ rows) h =
    let t : holds c row ≡ true = holds-from c row (λ i b e. absurd (some_none b _ e (h i))) in
    let s : strip c row ≡ row = ext (strip c row) row (length-strip c row) (λ i. get_or-strip c row i ∙ ap (λ (x : Option Bool). without x (get_or row i None)) (h i)) in
    let rest : over c rows ≡ rows = over-none c rows h in
    ap (λ (x : Bool). if x then strip c row ∷ over c rows else over c rows) t ∙ ap (λ (x : List (Option Bool)). x ∷ over c rows) s ∙ ap (λ (l : List (List (Option Bool))). row ∷ l) rest

-- the rows with a cube are no more than those with one of its literals
over-count : (c : List (Option Bool)) (i : ℕ) (b : Bool) (rs : List (List (Option Bool))) → get_or c i None ≡ Some b → length (over c rs) ≤ length (holding_rows i b rs)
unfolding over holding_rows
over-count c i b [] e = omega arith
over-count c i b (row ∷ rows) e = cases (holds c row) refl (over-count c i b rows e)
  where
    cases : (t : Bool) → holds c row ≡ t → length (over c rows) ≤ length (holding_rows i b rows)
        → length (if t then strip c row ∷ over c rows else over c rows) ≤ length (if has_literal (get_or row i None) b then row ∷ holding_rows i b rows else holding_rows i b rows)
    cases true h rest = subst (λ (t : Bool). length (strip c row ∷ over c rows) ≤ length (if t then row ∷ holding_rows i b rows else holding_rows i b rows)) (sym (is-has_literal (get_or row i None) b (holds-at c row i b h e))) (omega arith)
    cases false h rest = other (has_literal (get_or row i None) b) rest
      where
        other : (t : Bool) → length (over c rows) ≤ length (holding_rows i b rows) → length (over c rows) ≤ length (if t then row ∷ holding_rows i b rows else holding_rows i b rows)
        other true r = omega arith
        other false r = r

has-length : (r : List (Option Bool)) (rs : List (List (Option Bool))) → Has r rs → 0 < length rs
has-length r [] m = absurd m
has-length r (x ∷ xs) m = omega arith

without-some : (x y : Option Bool) (b : Bool) → without x y ≡ Some b → x ≡ None
without-some None y b h = refl
without-some (Some a) y b h = absurd (some_none b None h refl)

over-fewer : (c : List (Option Bool)) (rs : List (List (Option Bool))) → length (over c rs) ≤ length rs
unfolding over
over-fewer c [] = omega arith
over-fewer c (row ∷ rows) = cases (holds c row) (over-fewer c rows)
  where
    cases : (t : Bool) → length (over c rows) ≤ length rows → length (if t then strip c row ∷ over c rows else over c rows) ≤ length (row ∷ rows)
    cases true h = omega arith
    cases false h = omega arith

first-of : (rs : List (List (Option Bool))) → 0 < length rs → (r : List (Option Bool)) × Has r rs
first-of [] lt = absurd (omega arith)
first-of (row ∷ rows) lt = (row, inl refl)

-- a cube-free quotient by c is the quotient, by the rest of c, of the quotient by u, if each row
-- that has the literals of c has those of u too
pub through : (w : ℕ) (h : List (List (Option Bool))) (c u : List (Option Bool)) → HasWidth w h → length c ≡ w → length u ≡ w
    → ((r : List (Option Bool)) → Has r h → holds c r ≡ true → holds u r ≡ true) → IsCubeFree (over c h) → over (strip u c) (over u h) ≡ over c h
through w h c u wide lc lu both free = over-over u (strip u c) h apart ∙ ap (λ (x : List (Option Bool)). over x h) whole
  where
    -- a literal of u is one of c, else the quotient's rows would share it
    inside : (i : ℕ) (b : Bool) → get_or u i None ≡ Some b → get_or c i None ≡ Some b
    inside i b e = elim (some-or (get_or c i None)) as (λ _. get_or c i None ≡ Some b) [
      | inl n ↦ absurd (free.1 i b (λ r m. let p = Has-over c h r m in ap (λ (x : List (Option Bool)). get_or x i None) p.3 ∙ get_or-strip c p.0 i ∙ ap (λ (x : Option Bool). without x (get_or p.0 i None)) n ∙ holds-at u p.0 i b (both p.0 p.1 p.2) e))
      | inr s ↦ (
          let first = first-of (over c h) (omega (arith, free.0)) in
          let p = Has-over c h first.0 first.1 in
          s.1 ∙ ap (λ (x : Bool). Some x) (some_some s.0 b (get_or p.0 i None) (holds-at c p.0 i s.0 p.2 s.1) (holds-at u p.0 i b (both p.0 p.1 p.2) e)))
    ]

    apart : AreApart u (strip u c)
    apart i b e = elim (some-or (get_or u i None)) as (λ _. get_or u i None ≡ None) [ inl n ↦ n | inr s ↦ absurd (some_none b _ e (get_or-strip u c i ∙ ap (λ (x : Option Bool). without x (get_or c i None)) s.1)) ]

    whole : times u (strip u c) ≡ c
    whole = ext (times u (strip u c)) c (length-times u (strip u c) (lu ∙ sym (length-strip u c ∙ lc)) ∙ lu ∙ sym lc) (λ i. elim (some-or (get_or u i None)) as (λ _. get_or (times u (strip u c)) i None ≡ get_or c i None) [
      | inl n ↦ get_or-times u (strip u c) i ∙ ap (λ (x : Option Bool). literal_product x (get_or (strip u c) i None)) n ∙ get_or-strip u c i ∙ ap (λ (x : Option Bool). without x (get_or c i None)) n
      | inr s ↦ get_or-times u (strip u c) i ∙ ap (λ (x : Option Bool). literal_product x (get_or (strip u c) i None)) s.1 ∙ sym (inside i s.0 s.1)
    ])

-- what is seen with all that it leads to has each free quotient of what is seen
pub complete : (w : ℕ) (seen : List (List (List (Option Bool)))) → ((k : List (List (Option Bool))) → Has k seen → IsExplored seen k) → (n : ℕ) (c : List (Option Bool)) (h : List (List (Option Bool)))
    → literals c ≤ n → length c ≡ w → HasWidth w h → Has h seen → IsCubeFree (over c h) → Has (over c h) seen
complete w seen all zero c h less lc wide m free = elim (literal-or c) as (λ _. Has (over c h) seen) [
  | inl none ↦ subst (λ (k : List (List (Option Bool))). Has k seen) (sym (over-none c h none)) m
  | inr p ↦ absurd (omega (arith, less, literals-less c c p.0 p.1 p.1 p.2 p.2))
]
complete w seen all (suc n) c h less lc wide m free = elim (literal-or c) as (λ _. Has (over c h) seen) [
  | inl none ↦ subst (λ (k : List (List (Option Bool))). Has k seen) (sym (over-none c h none)) m
  | inr p ↦ (
      let two : 2 ≤ length (holding_rows p.0 p.1 h) = omega (arith, free.0, over-count c p.0 p.1 h p.2) in
      let u : List (Option Bool) = common_cube (holding_rows p.0 p.1 h) in
      let at : get_or u p.0 None ≡ Some p.1 = common_cube-all (holding_rows p.0 p.1 h) p.0 p.1 (omega arith) (λ r k. (Has-holding_rows p.0 p.1 h r k).1) in
      let lu : length u ≡ w = common_cube-length w (holding_rows p.0 p.1 h) (omega arith) (λ r k. width-has w h r wide (Has-holding_rows p.0 p.1 h r k).0) in
      let e : over (strip u c) (over u h) ≡ over c h = through w h c u wide lc lu
      (λ r k t. holds-from u r (λ j a q. common_cube-at (holding_rows p.0 p.1 h) j a q r (holding_rows-has p.0 p.1 h r k (holds-at c r p.0 p.1 t p.2)))) free in
      subst (λ (k : List (List (Option Bool))). Has k seen) e
      (complete w seen all n (strip u c) (over u h) (omega (arith, less, literals-less u c p.0 p.1 p.1 at p.2)) (length-strip u c ∙ lc) (over-width w u h wide) (all h m p.0 p.1 two) (subst IsCubeFree (sym e) free)))
]

-- each kernel of f is seen, where f without what its rows share is
pub all-found : (w : ℕ) (f : List (List (Option Bool))) (seen : List (List (List (Option Bool)))) → HasWidth w f → ((k : List (List (Option Bool))) → Has k seen → IsExplored seen k) → Has (over (common_cube f) f) seen
    → (k : List (List (Option Bool))) → IsFound w f k → Has k seen
all-found w f seen wide all start k found =
    let c : List (Option Bool) = found.cube.0 in
    let free : IsCubeFree (over c f) = subst IsCubeFree found.cube.2 found.free in
    let first = first-of (over c f) (omega (arith, free.0)) in
    let p = Has-over c f first.0 first.1 in
    let some : 0 < length f = has-length p.0 f p.1 in
    let u : List (Option Bool) = common_cube f in
    let e : over (strip u c) (over u f) ≡ over c f = through w f c u wide found.cube.1 (common_cube-length w f some (λ r m. width-has w f r wide m)) (λ r m t. holds-from u r (λ j a q. common_cube-at f j a q r m)) free in
    subst (λ (x : List (List (Option Bool))). Has x seen) (e ∙ sym found.cube.2)
    (complete w seen all (literals (strip u c)) (strip u c) (over u f) (omega arith) (length-strip u c ∙ found.cube.1) (over-width w u f wide) start (subst IsCubeFree (sym e) free))

-- the kernels that one leads to are kernels of f
pub kernel-step : (w : ℕ) (f h : List (List (Option Bool))) (i : ℕ) (b : Bool) → HasWidth w f → IsFound w f h → 2 ≤ length (holding_rows i b h) → IsFound w f (kernel_at i b h)
kernel-step w f h i b wide found two =
    let a : List (Option Bool) = found.cube.0 in
    let u : List (Option Bool) = common_cube (holding_rows i b h) in
    let lu : length u ≡ w = common_cube-length w (holding_rows i b h) (omega arith) (λ r m. width-has w h r (subst (HasWidth w) (sym found.cube.2) (over-width w a f wide)) (Has-holding_rows i b h r m).0) in
    let apart : AreApart a u = λ j x e.
    (let first = first-of (holding_rows i b h) (omega arith) in
    let r : get_or first.0 j None ≡ Some x = common_cube-at (holding_rows i b h) j x e first.0 first.1 in
    let p = Has-over a f first.0 (subst (λ (l : List (List (Option Bool))). Has first.0 l) found.cube.2 (Has-holding_rows i b h first.0 first.1).0) in
    (without-some (get_or a j None) (get_or p.0 j None) x (sym (get_or-strip a p.0 j) ∙ sym (ap (λ (y : List (Option Bool)). get_or y j None) p.3) ∙ r))) in
    record {
      cube = (times a u, length-times a u (found.cube.1 ∙ sym lu) ∙ found.cube.1, ap (over u) found.cube.2 ∙ over-over a u f apart);
      free = (
        subst (λ (k : List (List (Option Bool))). 2 ≤ length k) (sym (kernel-rows i b h (omega arith))) (omega (arith, two, length-map (holding_rows i b h) (strip u))),
        subst NoCommon (sym (kernel-rows i b h (omega arith))) (free-of-common_cube (holding_rows i b h) (omega arith)),
      );
    }

-- so is f without what its rows share, where it has two rows
pub start-found : (w : ℕ) (f : List (List (Option Bool))) → HasWidth w f → 2 ≤ length f → IsFound w f (over (common_cube f) f)
start-found w f wide two = record {
  cube = (common_cube f, common_cube-length w f (omega arith) (λ r m. width-has w f r wide m), refl);
  free = (
    subst (λ (k : List (List (Option Bool))). 2 ≤ length k) (sym (start-rows f)) (omega (arith, two, length-map f (strip (common_cube f)))),
    subst NoCommon (sym (start-rows f)) (free-of-common_cube f (omega arith)),
  );
}

-- a sum of less than two rows has no kernel
pub none-found : (w : ℕ) (f k : List (List (Option Bool))) → length f < 2 → IsFound w f k → ⊥
none-found w f k few found = omega (arith, found.free.0, ap (λ (l : List (List (Option Bool))). length l) found.cube.2, over-fewer found.cube.0 f, few)

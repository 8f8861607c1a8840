-- The cubes of a quotient: the cube from which a row of f comes, and the list of them over the
-- rows.
use Rattle.std.proofs.Common.{◌≡◌, ℕ, ◌+◌, ◌<◌, ◌≤◌, Bool, false, Option, Some, None, List, [], ◌∷◌, ◌++◌, length, get_or, replicate, refl, sym, ap, ◌∙◌, subst, arith, inl, inr, ◌⊎◌, true≢false}
use Rattle.std.proofs.lemmas.Bool.{cases_lt}
use Rattle.sis_base.specs.Rows.{HasWidth}
use Rattle.alg_div.specs.Cubes.{Has, times, row_eq}
use Rattle.alg_div.specs.Steps.{without, strip, support, IsTermAt, IsTheTerm, IsPart}
use Rattle.alg_div.specs.Quotient.{IsApart, IsTerm, Rises, IsQuotientBy, IsQuotient}
use Rattle.alg_div.proofs.Lists.{Has-left, Has-right, Has-append, Has-at, position-number, position-same, position-some}
use Rattle.alg_div.proofs.Cubes.{times_none, get_or-times, get_or-strip, length-strip, ext, get_or-dashes, product_has, untouched, support-apart, length-support}
use Rattle.std.proofs.lemmas.List.{length-replicate}
use Rattle.std.specs.List.{position_from}
use Rattle.cube_cover.specs.Literals.{literal_product, row_contains}

some_none : (b : Bool) (x : Option Bool) → x ≡ Some b → x ≡ None → ⊥
some_none b x h k = cc

below_or : (i j : ℕ) → j < i + 1 → (j < i) ⊎ (j ≡ i)
below_or i j lt = elim (cases_lt j i) as (λ _. (j < i) ⊎ (j ≡ i)) [ inl h ↦ inl h | inr h ↦ inr (omega arith) ]

-- a cube without d's variables whose product with one of d's cubes is the row r is r without those
-- variables
pub term-is : (w : ℕ) (d : List (List (Option Bool))) (c k r : List (Option Bool)) → length c ≡ length r → IsApart c d → Has k d → times c k ≡ r → strip (support w d) r ≡ c
term-is w d c k r len apart m e =
    ext (strip (support w d) r) c (length-strip (support w d) r ∙ sym len) (λ i. get_or-strip (support w d) r i ∙ at i (get_or (support w d) i None) refl)
  where
    row_at : (i : ℕ) → get_or r i None ≡ literal_product (get_or c i None) (get_or k i None)
    row_at i = ap (λ (x : List (Option Bool)). get_or x i None) (sym e) ∙ get_or-times c k i

    at : (i : ℕ) (t : Option Bool) → get_or (support w d) i None ≡ t → without t (get_or r i None) ≡ get_or c i None
    at i None h = row_at i ∙ ap (λ (x : Option Bool). literal_product (get_or c i None) x) (untouched (replicate w None) d i h k m) ∙ times_none (get_or c i None)
    at i (Some b) h = sym (support-apart c (replicate w None) d i b (λ a q. absurd (some_none a _ q (get_or-dashes w i))) apart h)

-- that cube has no variable of d
pub strip-apart : (w : ℕ) (d : List (List (Option Bool))) (r : List (Option Bool)) → IsApart (strip (support w d) r) d
strip-apart w d r k m i b e = get_or-strip (support w d) r i ∙ at (get_or (support w d) i None) refl
  where
    at : (t : Option Bool) → get_or (support w d) i None ≡ t → without t (get_or r i None) ≡ None
    at None h = absurd (some_none b _ e (untouched (replicate w None) d i h k m))
    at (Some x) h = refl

-- the answers of the step at one row: the cube is a term there, or no cube is
pub term-some : (w : ℕ) (f d : List (List (Option Bool))) (k r c : List (Option Bool)) (i : ℕ) → c ≡ strip (support w d) r → length r ≡ w → position_from (row_eq (times c k)) 0 f ≡ Some i
    → ((x : List (Option Bool)) → Has x d → Has (times c x) f) → IsTermAt w f k d i c
term-some w f d k r c i e len at rows =
    (record { wide = ap length e ∙ (length-strip (support w d) r ∙ len); apart = subst (λ (x : List (Option Bool)). IsApart x d) (sym e) (strip-apart w d r); rows = rows }, at)

-- a term at the row's number is the row without d's variables
pub term-only : (w : ℕ) (f d : List (List (Option Bool))) (k r c : List (Option Bool)) (i : ℕ) → Has k d → r ≡ get_or f i [] → length r ≡ w → IsTermAt w f k d i c → strip (support w d) r ≡ c
term-only w f d k r c i m e len t = term-is w d c k r (t.0.wide ∙ sym len) t.0.apart m (sym (position-same 0 i (times c k) f (t.1 ∙ ap (λ (n : ℕ). Some n) plus)) ∙ sym e)
  where
    plus : i ≡ 0 + i
    plus = omega arith

-- the list of terms over the first rows
pub part-zero : (w : ℕ) (f : List (List (Option Bool))) (k : List (Option Bool)) (d : List (List (Option Bool))) → IsPart w f k d 0 []
unfolding Rises
part-zero w f k d = record { only = λ c h. absurd h; every = λ c j t lt. absurd (omega arith); order = omega arith }

rises-more : (low high more : ℕ) (p : List (Option Bool) → Option ℕ) (q : List (List (Option Bool))) → high ≤ more → Rises low high p q → Rises low more p q
unfolding Rises
rises-more low high more p [] h r = omega (arith, r)
rises-more low high more p (c ∷ cs) h (i, lt, e, r) = (i, lt, e, rises-more (i + 1) high more p cs h r)

rises-push : (low high : ℕ) (p : List (Option Bool) → Option ℕ) (q : List (List (Option Bool))) (c : List (Option Bool)) → Rises low high p q → p c ≡ Some high → Rises low (high + 1) p (q ++ c ∷ [])
unfolding Rises
rises-push low high p [] c r e = (high, r, e, omega arith)
rises-push low high p (x ∷ xs) c (i, lt, here, r) e = (i, lt, here, rises-push (i + 1) high p xs c r e)

pub part-none : (w : ℕ) (f : List (List (Option Bool))) (k : List (Option Bool)) (d : List (List (Option Bool))) (i : ℕ) (q : List (List (Option Bool)))
    → IsPart w f k d i q → IsTheTerm w f k d i None → IsPart w f k d (i + 1) q
part-none w f k d i q part no_term = record {
  only = part.only;
  every = λ c j t lt. elim (below_or i j lt) as (λ _. Has c q) [ inl h ↦ part.every c j t h | inr e ↦ absurd (no_term c (t.0, t.1 ∙ ap (λ (n : ℕ). Some n) e)) ];
  order = rises-more 0 i (i + 1) _ q (omega arith) part.order;
}

pub part-some : (w : ℕ) (f : List (List (Option Bool))) (k : List (Option Bool)) (d : List (List (Option Bool))) (i : ℕ) (q : List (List (Option Bool))) (c : List (Option Bool))
    → IsPart w f k d i q → (r : List (Option Bool)) → strip (support w d) r ≡ c → Has k d → r ≡ get_or f i [] → length r ≡ w → IsTermAt w f k d i c → IsPart w f k d (i + 1) (q ++ c ∷ [])
part-some w f k d i q c part r from m e len t = record {
  only = λ x h. elim (Has-append x q (c ∷ []) h) as (λ _. IsTerm w f d x) [ inl a ↦ part.only x a | inr b ↦ elim b as (λ _. IsTerm w f d x) [ inl s ↦ subst (λ (y : List (Option Bool)). IsTerm w f d y) (sym s) t.0 | inr n ↦ absurd n ] ];
  every = λ x j u lt. elim (below_or i j lt) as (λ _. Has x (q ++ c ∷ [])) [
    | inl h ↦ Has-left x q (c ∷ []) (part.every x j u h)
    | inr s ↦ Has-right x q (c ∷ []) (inl (sym (term-only w f d k r x i m e len (u.0, u.1 ∙ ap (λ (n : ℕ). Some n) s)) ∙ from))
  ];
  order = rises-push 0 i _ q c part.order t.1;
}

pub part-whole : (w : ℕ) (f : List (List (Option Bool))) (k : List (Option Bool)) (d : List (List (Option Bool))) (n : ℕ) (q : List (List (Option Bool)))
    → n ≡ length f → Has k d → IsPart w f k d n q → IsQuotientBy w f k d q
part-whole w f k d n q e m part = record {
  only = part.only;
  every = λ c t. let p = position-some 0 (times c k) f (t.rows k m) in part.every c p.0 (t, p.1) (omega (arith, e, (position-number 0 p.0 (times c k) f p.1).1));
  order = rises-more 0 n (length f) _ q (omega arith) part.order;
}

-- no term where the one cube that it could be makes no row of that number, or lacks a product
pub term-missing : (w : ℕ) (f d : List (List (Option Bool))) (k r : List (Option Bool)) (i : ℕ) → Has k d → r ≡ get_or f i [] → length r ≡ w
    → (position_from (row_eq (times (strip (support w d) r) k)) 0 f ≡ Some i → ⊥) → IsTheTerm w f k d i None
term-missing w f d k r i m e len miss c t =
    miss (subst (λ (x : List (Option Bool)). position_from (row_eq (times x k)) 0 f ≡ Some i) (sym (term-only w f d k r c i m e len t)) t.1)

-- no term where the row lacks a literal of the cube k
pub term-holds : (w : ℕ) (f d : List (List (Option Bool))) (k r : List (Option Bool)) (i : ℕ) → Has k d → r ≡ get_or f i [] → row_contains k r ≡ false → IsTheTerm w f k d i None
term-holds w f d k r i m e lacks c t =
    true≢false (sym (product_has c k (t.0.apart k m)) ∙ ap (λ (x : List (Option Bool)). row_contains k x) (sym (e ∙ position-same 0 i (times c k) f (t.1 ∙ ap (λ (n : ℕ). Some n) plus))) ∙ lacks)
  where
    plus : i ≡ 0 + i
    plus = omega arith

pub term-lacking : (w : ℕ) (f d : List (List (Option Bool))) (k r : List (Option Bool)) (i : ℕ) → Has k d → r ≡ get_or f i [] → length r ≡ w
    → (((x : List (Option Bool)) → Has x d → Has (times (strip (support w d) r) x) f) → ⊥) → IsTheTerm w f k d i None
term-lacking w f d k r i m e len lack c t =
    lack (λ x h. subst (λ (y : List (Option Bool)). Has (times y x) f) (sym (term-only w f d k r c i m e len t)) (t.0.rows x h))

pub width-has : (w : ℕ) (rows : List (List (Option Bool))) (row : List (Option Bool)) → HasWidth w rows → Has row rows → length row ≡ w
unfolding HasWidth
width-has w [] row h m = absurd m
width-has w (first ∷ rows) row h m = elim m as (λ _. length row ≡ w) [ inl e ↦ ap length e ∙ h.0 | inr n ↦ width-has w rows row h.1 n ]

pub width-from : (w : ℕ) (rows : List (List (Option Bool))) → ((row : List (Option Bool)) → Has row rows → length row ≡ w) → HasWidth w rows
unfolding HasWidth
width-from w [] h = tt
width-from w (first ∷ rows) h = (h first (inl refl), width-from w rows (λ row m. h row (inr m)))

pub length-mask : (w : ℕ) (d : List (List (Option Bool))) → HasWidth w d → length (support w d) ≡ w
length-mask w d h = length-support (replicate w None) d (λ k m. length-replicate w None ∙ sym (width-has w d k h m)) ∙ length-replicate w None

pub quotient-none : (w : ℕ) (f d q : List (List (Option Bool))) → length d ≡ 0 → q ≡ [] → IsQuotient w f d q
quotient-none w f [] q e h = h
quotient-none w f (k ∷ ks) q e h = absurd (omega arith)

pub quotient-by : (w n : ℕ) (f d q : List (List (Option Bool))) (k : List (Option Bool)) → n ≡ w → k ≡ get_or d 0 [] → 0 < length d → IsQuotientBy n f k d q → IsQuotient w f d q
quotient-by w n f [] q k e same h part = absurd (omega arith)
quotient-by w n f (first ∷ ks) q k e same h part =
    subst (λ (m : ℕ). IsQuotientBy m f first (first ∷ ks) q) e (subst (λ (x : List (Option Bool)). IsQuotientBy n f x (first ∷ ks) q) same part)

-- the loop's step at a row whose term is new
pub part-new : (w : ℕ) (f : List (List (Option Bool))) (k : List (Option Bool)) (d : List (List (Option Bool))) (i : ℕ) (q : List (List (Option Bool))) (c : List (Option Bool)) → HasWidth w f → Has k d → i < length f
    → IsPart w f k d i q → IsTermAt w f k d i c → IsPart w f k d (i + 1) (q ++ c ∷ [])
part-new w f k d i q c wide m lt part t =
    let r : List (Option Bool) = get_or f i [] in
    let len : length r ≡ w = width-has w f r wide (Has-at f i [] lt) in
    part-some w f k d i q c part r (term-only w f d k r c i m refl len t) m refl len t

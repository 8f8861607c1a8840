-- Laws of division: quotient, divisor and remainder make up the dividend, and the quotient is
-- unique.
use Rattle.std.proofs.Common.{◌≡◌, ℕ, ◌+◌, ◌≤◌, Bool, true, false, if◌then◌else◌, Option, Some, None, List, [], ◌∷◌, ◌++◌, length, get_or, refl, sym, ap, ◌∙◌, subst, arith, inl, inr, ◌⊎◌, ◌↔◌, is_some, true≢false, append_assoc}
use Rattle.std.specs.List.{position_from}
use Rattle.cube_cover.specs.Literals.{literal_product}
use Rattle.sis_base.specs.Rows.{HasWidth}
use Rattle.alg_div.specs.Cubes.{Has, times, products_by, products, row_eq}
use Rattle.alg_div.specs.Quotient.{IsTerm, Rises, IsQuotient, others, IsRemainder}
use Rattle.alg_div.proofs.Lists.{bool_cases, Has-append, is_some-position, has-position, one-row}
use Rattle.alg_div.proofs.Cubes.{times_none, get_or-times, length-times, ext}
use Rattle.alg_div.proofs.Terms.{width-has, width-from}

-- the others of a list that is read in turn
others-cons : (ps rows : List (List (Option Bool))) (row : List (Option Bool)) (rest : List (List (Option Bool))) → rows ≡ row ∷ rest → others rows ps ≡ (if is_some (position_from (row_eq row) 0 ps) then others rest ps else row ∷ others rest ps)
unfolding others
others-cons ps rows row rest e = ap (λ (x : List (List (Option Bool))). others x ps) e

pub others-new : (ps made rows : List (List (Option Bool))) (row : List (Option Bool)) (rest now all : List (List (Option Bool))) → rows ≡ row ∷ rest → is_some (position_from (row_eq row) 0 ps) ≡ false → now ≡ made ++ row ∷ []
    → made ++ others rows ps ≡ all → now ++ others rest ps ≡ all
others-new ps made rows row rest now all e t grown h =
    ap (λ (x : List (List (Option Bool))). x ++ others rest ps) grown ∙ append_assoc made (row ∷ []) (others rest ps)
    ∙ ap (λ (x : List (List (Option Bool))). made ++ x) (sym (others-cons ps rows row rest e ∙ ap (λ (b : Bool). if b then others rest ps else row ∷ others rest ps) t)) ∙ h

pub others-old : (ps made rows : List (List (Option Bool))) (row : List (Option Bool)) (rest now all : List (List (Option Bool))) → rows ≡ row ∷ rest → is_some (position_from (row_eq row) 0 ps) ≡ true → now ≡ made
    → made ++ others rows ps ≡ all → now ++ others rest ps ≡ all
others-old ps made rows row rest now all e t same h =
    ap (λ (x : List (List (Option Bool))). x ++ others rest ps) same
    ∙ ap (λ (x : List (List (Option Bool))). made ++ x) (sym (others-cons ps rows row rest e ∙ ap (λ (b : Bool). if b then others rest ps else row ∷ others rest ps) t)) ∙ h

-- what is in the others
pub others-has : (f ps : List (List (Option Bool))) (r : List (Option Bool)) → Has r (others f ps) → Has r f × (Has r ps → ⊥)
unfolding others
others-has [] ps r h = absurd h
others-has (row ∷ rest) ps r h = cases (is_some (position_from (row_eq row) 0 ps)) refl h (others-has rest ps r)
  where
    cases : (t : Bool) → is_some (position_from (row_eq row) 0 ps) ≡ t → Has r (if t then others rest ps else row ∷ others rest ps) → (Has r (others rest ps) → Has r rest × (Has r ps → ⊥)) → Has r (row ∷ rest) × (Has r ps → ⊥)
    cases true e k next = (inr (next k).0, (next k).1)
    cases false e k next = elim k as (λ _. Has r (row ∷ rest) × (Has r ps → ⊥)) [ inl same ↦ (inl same, λ m. true≢false (sym (is_some-position row ps (subst (λ (x : List (Option Bool)). Has x ps) same m)) ∙ e)) | inr m ↦ (inr (next m).0, (next m).1) ]

pub has-others : (f ps : List (List (Option Bool))) (r : List (Option Bool)) → Has r f → (Has r ps → ⊥) → Has r (others f ps)
unfolding others
has-others [] ps r h n = absurd h
has-others (row ∷ rest) ps r h n = cases (is_some (position_from (row_eq row) 0 ps)) refl h (λ m. has-others rest ps r m n)
  where
    cases : (t : Bool) → is_some (position_from (row_eq row) 0 ps) ≡ t → Has r (row ∷ rest) → (Has r rest → Has r (others rest ps)) → Has r (if t then others rest ps else row ∷ others rest ps)
    cases true e k next = elim k as (λ _. Has r (others rest ps)) [ inl same ↦ absurd (n (subst (λ (x : List (Option Bool)). Has x ps) (sym same) (has-position row ps e))) | inr m ↦ next m ]
    cases false e k next = elim k as (λ _. Has r (row ∷ others rest ps)) [ inl same ↦ inl same | inr m ↦ inr (next m) ]

-- what is among the products
pub products_by-has : (c : List (Option Bool)) (d : List (List (Option Bool))) (r : List (Option Bool)) → Has r (products_by c d) → (k : List (Option Bool)) × Has k d × (r ≡ times c k)
unfolding products_by
products_by-has c [] r h = absurd h
products_by-has c (k ∷ ks) r h = elim h as (λ _. (x : List (Option Bool)) × Has x (k ∷ ks) × (r ≡ times c x)) [ inl e ↦ (k, inl refl, e) | inr m ↦ (let p = products_by-has c ks r m in (p.0, inr p.1, p.2)) ]

pub products-has : (q d : List (List (Option Bool))) (r : List (Option Bool)) → Has r (products q d) → (c : List (Option Bool)) × (k : List (Option Bool)) × Has c q × Has k d × (r ≡ times c k)
unfolding products
products-has [] d r h = absurd h
products-has (c ∷ cs) d r h = elim (Has-append r (products_by c d) (products cs d) h) as (λ _. (x : List (Option Bool)) × (k : List (Option Bool)) × Has x (c ∷ cs) × Has k d × (r ≡ times x k)) [
  | inl a ↦ (let p = products_by-has c d r a in (c, p.0, inl refl, p.1, p.2))
  | inr b ↦ (let p = products-has cs d r b in (p.0, p.1, inr p.2, p.3, p.4))
]

pub quotient-terms : (w : ℕ) (f d q : List (List (Option Bool))) → IsQuotient w f d q → (c : List (Option Bool)) → Has c q → IsTerm w f d c
quotient-terms w f [] q h c m = absurd (subst (λ (x : List (List (Option Bool))). Has c x) h m)
quotient-terms w f (k ∷ ks) q h c m = h.only c m

pub products-in : (w : ℕ) (f d q : List (List (Option Bool))) → IsQuotient w f d q → (r : List (Option Bool)) → Has r (products q d) → Has r f
products-in w f d q h r m = let p = products-has q d r m in subst (λ (x : List (Option Bool)). Has x f) (sym p.4) ((quotient-terms w f d q h p.0 p.2).rows p.1 p.3)

pub parts-all : (w : ℕ) (f d q r : List (List (Option Bool))) → IsQuotient w f d q → IsRemainder f d q r → (row : List (Option Bool)) → Has row f ↔ (Has row (products q d) ⊎ Has row r)
parts-all w f d q r h e row = (
  λ m. elim (bool_cases (is_some (position_from (row_eq row) 0 (products q d)))) as (λ _. Has row (products q d) ⊎ Has row r) [
    | inl t ↦ inl (has-position row (products q d) t)
    | inr n ↦ inr (subst (λ (x : List (List (Option Bool))). Has row x) (sym e) (has-others f (products q d) row m (λ p. true≢false (sym (is_some-position row (products q d) p) ∙ n))))
  ],
  λ s. elim s as (λ _. Has row f) [ inl p ↦ products-in w f d q h row p | inr m ↦ (others-has f (products q d) row (subst (λ (x : List (List (Option Bool))). Has row x) e m)).0 ],
)

pub parts-apart : (f d q r : List (List (Option Bool))) → IsRemainder f d q r → (row : List (Option Bool)) → Has row (products q d) → Has row r → ⊥
parts-apart f d q r e row p m = (others-has f (products q d) row (subst (λ (x : List (List (Option Bool))). Has row x) e m)).1 p

-- widths of the results
pub quotient-wide : (w : ℕ) (f d q : List (List (Option Bool))) → IsQuotient w f d q → HasWidth w q
quotient-wide w f d q h = width-from w q (λ c m. (quotient-terms w f d q h c m).wide)

pub others-wide : (w : ℕ) (f ps : List (List (Option Bool))) → HasWidth w f → HasWidth w (others f ps)
others-wide w f ps h = width-from w (others f ps) (λ row m. width-has w f row h (others-has f ps row m).0)

-- a cube without k's variables is known from its product with k
times-cancel : (c e k : List (Option Bool)) → length c ≡ length e → ((i : ℕ) (b : Bool) → get_or k i None ≡ Some b → (get_or c i None ≡ None) × (get_or e i None ≡ None)) → times c k ≡ times e k → c ≡ e
times-cancel c e k len apart same = ext c e len (λ i. at i (get_or k i None) refl)
  where
    at : (i : ℕ) (x : Option Bool) → get_or k i None ≡ x → get_or c i None ≡ get_or e i None
    at i None h = sym (times_none (get_or c i None)) ∙ ap (λ (x : Option Bool). literal_product (get_or c i None) x) (sym h) ∙ sym (get_or-times c k i)
        ∙ ap (λ (r : List (Option Bool)). get_or r i None) same ∙ get_or-times e k i ∙ ap (λ (x : Option Bool). literal_product (get_or e i None) x) h ∙ times_none (get_or e i None)
    at i (Some b) h = (apart i b h).0 ∙ sym (apart i b h).1

-- lists of the same cubes in the same strict order are one
rises-above : (low high : ℕ) (p : List (Option Bool) → Option ℕ) (q : List (List (Option Bool))) (z : List (Option Bool)) (n : ℕ) → Rises low high p q → Has z q → p z ≡ Some n → low ≤ n
unfolding Rises
rises-above low high p [] z n r m e = absurd m
rises-above low high p (c ∷ cs) z n (i, lt, here, rest) m e = elim m as (λ _. low ≤ n) [
  | inl same ↦ (let s : Some i ≡ Some n = sym here ∙ ap p (sym same) ∙ e in let t : i ≡ n = cc in omega arith)
  | inr k ↦ omega (arith, rises-above (i + 1) high p cs z n rest k e)
]

rises-one : (low low' high high' : ℕ) (p : List (Option Bool) → Option ℕ) (q q' : List (List (Option Bool))) → ((x y : List (Option Bool)) → Has x q → Has y q' → p x ≡ p y → x ≡ y)
    → Rises low high p q → Rises low' high' p q' → ((z : List (Option Bool)) → Has z q → Has z q') → ((z : List (Option Bool)) → Has z q' → Has z q) → q ≡ q'
unfolding Rises
rises-one low low' high high' p [] [] one r s a b = refl
rises-one low low' high high' p [] (y ∷ ys) one r s a b = absurd (b y (inl refl))
rises-one low low' high high' p (x ∷ xs) [] one r s a b = absurd (a x (inl refl))
rises-one low low' high high' p (x ∷ xs) (y ∷ ys) one (i, lt, here, rest) (j, lt', here', rest') a b =
    let same : x ≡ y = elim (a x (inl refl)) as (λ _. x ≡ y) [
      | inl e ↦ e
      | inr m ↦ elim (b y (inl refl)) as (λ _. x ≡ y) [
        | inl e ↦ sym e
        | inr n ↦ absurd (omega (arith, rises-above (j + 1) high' p ys x i rest' m here, rises-above (i + 1) high p xs y j rest n here'))
      ]
    ] in
    let number : Some i ≡ Some j = sym here ∙ ap p same ∙ here' in
    let equal : i ≡ j = cc in
    let tails : xs ≡ ys = rises-one (i + 1) (j + 1) high high' p xs ys (λ u v m n. one u v (inr m) (inr n)) rest rest'
    (λ z m. elim (a z (inr m)) as (λ _. Has z ys) [ inl e ↦ absurd (omega (arith, rises-above (i + 1) high p xs z j rest m (ap p e ∙ here'))) | inr n ↦ n ])
    (λ z m. elim (b z (inr m)) as (λ _. Has z xs) [ inl e ↦ absurd (omega (arith, rises-above (j + 1) high' p ys z i rest' m (ap p e ∙ here))) | inr n ↦ n ]) in
    cc

pub quotient-one : (w : ℕ) (f d q q' : List (List (Option Bool))) → IsQuotient w f d q → IsQuotient w f d q' → q ≡ q'
quotient-one w f [] q q' h h' = h ∙ sym h'
quotient-one w f (k ∷ ks) q q' h h' = rises-one 0 0 (length f) (length f) _ q q' same h.order h'.order (λ z m. h'.every z (h.only z m)) (λ z m. h.every z (h'.only z m))
  where
    same : (x y : List (Option Bool)) → Has x q → Has y q' → position_from (row_eq (times x k)) 0 f ≡ position_from (row_eq (times y k)) 0 f → x ≡ y
    same x y m n e = times-cancel x y k ((h.only x m).wide ∙ sym (h'.only y n).wide) (λ i b at. ((h.only x m).apart k (inl refl) i b at, (h'.only y n).apart k (inl refl) i b at)) (one-row f (times x k) (times y k) (is_some-position (times x k) f ((h.only x m).rows k (inl refl))) e)

-- the same facts at equal values
pub width-moved : (w w' : ℕ) (r r' : List (List (Option Bool))) → w ≡ w' → r ≡ r' → HasWidth w r → HasWidth w' r'
width-moved w w' r r' e s h = subst (λ (x : List (List (Option Bool))). HasWidth w' x) s (subst (λ (n : ℕ). HasWidth n r) e h)

pub quotient-moved : (w w' : ℕ) (f f' d d' q q' : List (List (Option Bool))) → w ≡ w' → f ≡ f' → d ≡ d' → q ≡ q' → IsQuotient w f d q → IsQuotient w' f' d' q'
quotient-moved w w' f f' d d' q q' a b c e h =
    subst (λ (x : List (List (Option Bool))). IsQuotient w' f' d' x) e
    (subst (λ (x : List (List (Option Bool))). IsQuotient w' f' x q) c (subst (λ (x : List (List (Option Bool))). IsQuotient w' x d q) b (subst (λ (n : ℕ). IsQuotient n f d q) a h)))

-- products have the width of their factors
pub products-wide : (w : ℕ) (q d : List (List (Option Bool))) → HasWidth w q → HasWidth w d → HasWidth w (products q d)
products-wide w q d wide divisor = width-from w (products q d) (λ r m.
    let (c, k, cube, row, e) = products-has q d r m in
    let long : length c ≡ w = width-has w q c wide cube in
    ap length e ∙ length-times c k (long ∙ sym (width-has w d k divisor row)) ∙ long)

-- What products save in cubes besides partners: those of two shared literals are left out.
use Rattle.std.proofs.Common.{◌≡◌, ◌<◌, ◌≤◌, ◌+◌, ◌==◌, ℕ, zero, suc, Bool, true, false, not, cond, List, [], ◌∷◌, ◌++◌, length, drop, get_or, drop-cons, filter, map, Less, nat_cmp, refl, sym, ap, ap₂, ◌∙◌, inl, inr, arith}
use Rattle.std.specs.List.{sum_by, list_any, AllByRecursion}
use Rattle.std.specs.List.Sorted.{IsStrictlySortedBy}
use Rattle.std.proofs.Math.Nat.{min_comm, max_comm, min-eq_left, max-eq_right}
use Rattle.std.proofs.lemmas.Bool.{false≢true, not-true, not_from_false}
use Rattle.std.proofs.lemmas.Cmp.{ranked}
use Rattle.std.proofs.lemmas.List.{get_or-drop, drop-drop, length-map, get_or-map}
use Rattle.std.proofs.lemmas.List.Sums.{sum_by-cons}
use Rattle.cover_names.proofs.Members.{Has}
use Rattle.net_gains.specs.Gains.{over_pairs}
use Rattle.net_gains.specs.CodedGains.{own, shared, sum_gain, product_gain, gains}
use Rattle.net_gains.specs.Totals.{AreCubes}
use Rattle.net_gains.specs.Turning.{beside, gains_beside, either_gain, own_products, paired_products, paired_gains}
use Rattle.net_gains.proofs.Merged.{rises_tail, rises_head}
use Rattle.net_gains.proofs.OverPairs.{has_left, has_right, has_append, kept_has, has_kept, once_kept, once_append, AreSame, pairs_same, pairs_append}
use Rattle.net_gains.proofs.Parted.{number_has, has_number, rising_once, shared_same}

-- ---- products in either order

either_even : (cover : List (List ℕ)) (x y : ℕ) → either_gain cover x y ≡ either_gain cover y x
either_even cover x y = ap₂ (product_gain cover) (min_comm x y) (max_comm x y)

risen_one : (cover : List (List ℕ)) (x : ℕ) (ys : List ℕ) → AllByRecursion (λ y. nat_cmp x y ≡ Less) ys → sum_by (product_gain cover x) ys ≡ sum_by (either_gain cover x) ys
risen_one cover x [] all = refl
risen_one cover x (y ∷ ys) all =
    let lt : x < y = ranked x y Less (sym all.0) in
    let here : product_gain cover x y ≡ either_gain cover x y = ap₂ (product_gain cover) (sym (min-eq_left (omega (arith, lt)))) (sym (max-eq_right (omega (arith, lt)))) in
    let rest : sum_by (product_gain cover x) ys ≡ sum_by (either_gain cover x) ys = risen_one cover x ys all.1 in
    sum_by-cons (product_gain cover x) y ys ∙ (ap₂ (λ (m n : ℕ). m + n) here rest ∙ sym (sum_by-cons (either_gain cover x) y ys))

risen : (cover : List (List ℕ)) (xs : List ℕ) → IsStrictlySortedBy nat_cmp xs → over_pairs (product_gain cover) xs ≡ over_pairs (either_gain cover) xs
unfolding over_pairs
risen cover [] rises = refl
risen cover (x ∷ xs) rises = ap₂ (λ (m n : ℕ). m + n) (risen_one cover x xs (rises_head x xs rises)) (risen cover xs (rises_tail x xs rises))

-- ---- a rising cube's own literals and those it shares

all_kept : (P : ℕ → Type 0) (test : ℕ → Bool) (xs : List ℕ) → AllByRecursion P xs → AllByRecursion P (filter test xs)
all_kept P test [] all = tt
all_kept P test (x ∷ xs) all = cases (test x) (all_kept P test xs all.1)
  where
    cases : (b : Bool) → AllByRecursion P (filter test xs) → AllByRecursion P (cond b (x ∷ filter test xs) (filter test xs))
    cases true rest = (all.0, rest)
    cases false rest = rest

rises_kept : (test : ℕ → Bool) (xs : List ℕ) → IsStrictlySortedBy nat_cmp xs → IsStrictlySortedBy nat_cmp (filter test xs)
unfolding IsStrictlySortedBy
rises_kept test [] rises = tt
rises_kept test (x ∷ xs) rises = cases (test x) (all_kept (λ y. nat_cmp x y ≡ Less) test xs rises.0) (rises_kept test xs rises.1)
  where
    cases : (b : Bool) → AllByRecursion (λ y. nat_cmp x y ≡ Less) (filter test xs) → IsStrictlySortedBy nat_cmp (filter test xs) → IsStrictlySortedBy nat_cmp (cond b (x ∷ filter test xs) (filter test xs))
    cases true below rest = (below, rest)
    cases false below rest = rest

pub own_rises : (one other : List ℕ) → IsStrictlySortedBy nat_cmp one → IsStrictlySortedBy nat_cmp (own one other)
own_rises one other rises = rises_kept (λ x. not (list_any (λ y. x == y) other)) one rises

filter_told : (test also : ℕ → Bool) (xs : List ℕ) → ((x : ℕ) → Has x xs → test x ≡ also x) → filter test xs ≡ filter also xs
filter_told test also [] told = refl
filter_told test also (x ∷ xs) told = ap₂ (λ (b : Bool) (ys : List ℕ). cond b (x ∷ ys) ys) (told x (inl refl)) (filter_told test also xs (λ y m. told y (inr m)))

-- what a cube has besides its own part is what it shares
pub own_own : (one other : List ℕ) → own one (own one other) ≡ shared one other
own_own one other = filter_told (λ x. not (list_any (λ y. x == y) (own one other))) (λ x. list_any (λ y. x == y) other) one (λ x m. told x m (list_any (λ y. x == y) other) refl)
  where
    absent : (x : ℕ) → list_any (λ y. x == y) other ≡ true → (b : Bool) → list_any (λ y. x == y) (own one other) ≡ b → not b ≡ true
    absent x e true f =
        absurd (false≢true (sym (not-true (list_any (λ y. x == y) other) (kept_has (λ z. not (list_any (λ y. z == y) other)) one x (number_has x (own one other) f)).1) ∙ e))
    absent x e false f = refl

    told : (x : ℕ) → Has x one → (b : Bool) → list_any (λ y. x == y) other ≡ b → not (list_any (λ y. x == y) (own one other)) ≡ list_any (λ y. x == y) other
    told x m true e = absent x e (list_any (λ y. x == y) (own one other)) refl ∙ sym e
    told x m false e =
        ap not (has_number x (own one other) (has_kept (λ z. not (list_any (λ y. z == y) other)) one x m (not_from_false (list_any (λ y. x == y) other) e))) ∙ sym e

own_shared_same : (one other : List ℕ) → IsStrictlySortedBy nat_cmp one → AreSame one (own one other ++ shared one other)
own_shared_same one other rises = record {
  once = rising_once one rises;
  other_once = once_append (own one other) (shared one other) (once_kept (λ x. not (list_any (λ y. x == y) other)) one (rising_once one rises)) (once_kept (λ x. list_any (λ y. x == y) other) one (rising_once one rises))
      (λ x m n.
      false≢true (sym (not-true (list_any (λ y. x == y) other) (kept_has (λ z. not (list_any (λ y. z == y) other)) one x m).1) ∙ (kept_has (λ z. list_any (λ y. z == y) other) one x n).1));
  there = λ x m. cases x m (list_any (λ y. x == y) other) refl;
  back = λ x m. elim (has_append x (own one other) (shared one other) m) as (λ _. Has x one) [
    | inl k ↦ (kept_has (λ z. not (list_any (λ y. z == y) other)) one x k).0
    | inr k ↦ (kept_has (λ z. list_any (λ y. z == y) other) one x k).0
  ];
}
  where
    cases : (x : ℕ) → Has x one → (b : Bool) → list_any (λ y. x == y) other ≡ b → Has x (own one other ++ shared one other)
    cases x m true e = has_right x (own one other) (shared one other) (has_kept (λ z. list_any (λ y. z == y) other) one x m e)
    cases x m false e =
        has_left x (own one other) (shared one other) (has_kept (λ z. not (list_any (λ y. z == y) other)) one x m (not_from_false (list_any (λ y. x == y) other) e))

products_split : (cover : List (List ℕ)) (one other : List ℕ) → IsStrictlySortedBy nat_cmp one → over_pairs (product_gain cover) one ≡ own_products cover one other + over_pairs (product_gain cover) (shared one other)
products_split cover one other rises =
    let whole : over_pairs (product_gain cover) one ≡ over_pairs (either_gain cover) one = risen cover one rises in
    let moved : over_pairs (either_gain cover) one ≡ over_pairs (either_gain cover) (own one other ++ shared one other) =
    pairs_same (either_gain cover) one (own one other ++ shared one other) (own_shared_same one other rises) (λ x y m n. either_even cover x y) in
    let split = pairs_append (either_gain cover) (own one other) (shared one other) in
    let left : over_pairs (product_gain cover) (shared one other) ≡ over_pairs (either_gain cover) (shared one other) =
    risen cover (shared one other) (rises_kept (λ x. list_any (λ y. x == y) other) one rises) in
    omega (arith, whole, moved, split, left)

-- the two parts of what is counted of a cube
pub own_products_split : (cover : List (List ℕ)) (one other ours mine both : List ℕ) → ours ≡ own one other → mine ≡ own one other → both ≡ own one (own one other)
    → own_products cover one other ≡ over_pairs (either_gain cover) ours + sum_by (λ number. sum_by (either_gain cover number) both) mine
own_products_split cover one other ours mine both ours_is mine_is both_is =
    ap₂ (λ (m n : ℕ). m + n) (ap (over_pairs (either_gain cover)) (sym ours_is))
    (ap₂ (λ (xs ys : List ℕ). sum_by (λ number. sum_by (either_gain cover number) ys) xs) (sym mine_is) (sym (both_is ∙ own_own one other)))

-- ---- cubes besides partners

-- what products save of which both literals are shared
unfoldable pub left_out : List (List ℕ) → List (List ℕ) → List (List ℕ) → ℕ
left_out cover [] partners = 0
left_out cover (cube ∷ cubes) [] = 0
left_out cover (cube ∷ cubes) (partner ∷ partners) = over_pairs (product_gain cover) (shared cube partner) + left_out cover cubes partners

shared_none : (xs : List ℕ) → shared xs [] ≡ []
shared_none [] = refl
shared_none (x ∷ xs) = shared_none xs

left_none : (cover : List (List ℕ)) (cubes : List (List ℕ)) → left_out cover cubes [] ≡ 0
unfolding left_out
left_none cover [] = refl
left_none cover (cube ∷ cubes) = refl

pairs_none : (cover : List (List ℕ)) (cube : List ℕ) → over_pairs (product_gain cover) (shared cube []) ≡ 0
unfolding over_pairs
pairs_none cover cube = ap (over_pairs (product_gain cover)) (shared_none cube)

paired_split : (cover : List (List ℕ)) (cubes partners : List (List ℕ)) → AreCubes cubes → sum_by (over_pairs (product_gain cover)) cubes ≡ paired_products cover cubes partners + left_out cover cubes partners
unfolding paired_products left_out
paired_split cover [] partners rise = refl
paired_split cover (cube ∷ cubes) [] rise =
    let here : over_pairs (product_gain cover) cube ≡ own_products cover cube [] + over_pairs (product_gain cover) (shared cube []) = products_split cover cube [] rise.0 in
    let none : over_pairs (product_gain cover) (shared cube []) ≡ 0 = pairs_none cover cube in
    let rest : sum_by (over_pairs (product_gain cover)) cubes ≡ paired_products cover cubes [] + left_out cover cubes [] = paired_split cover cubes [] rise.1 in
    let last : left_out cover cubes [] ≡ 0 = left_none cover cubes in
    let first = sum_by-cons (over_pairs (product_gain cover)) cube cubes in
    omega (arith, here, none, rest, last, first)
paired_split cover (cube ∷ cubes) (partner ∷ partners) rise =
    let here : over_pairs (product_gain cover) cube ≡ own_products cover cube partner + over_pairs (product_gain cover) (shared cube partner) = products_split cover cube partner rise.0 in
    let rest : sum_by (over_pairs (product_gain cover)) cubes ≡ paired_products cover cubes partners + left_out cover cubes partners = paired_split cover cubes partners rise.1 in
    let first = sum_by-cons (over_pairs (product_gain cover)) cube cubes in
    omega (arith, here, rest, first)

shared_products : (cover : List (List ℕ)) (one other : List ℕ) → IsStrictlySortedBy nat_cmp one → IsStrictlySortedBy nat_cmp other
    → over_pairs (product_gain cover) (shared one other) ≡ over_pairs (product_gain cover) (shared other one)
shared_products cover one other rises more =
    risen cover (shared one other) (rises_kept (λ x. list_any (λ y. x == y) other) one rises)
    ∙ (pairs_same (either_gain cover) (shared one other) (shared other one) (shared_same one other rises more) (λ x y m n. either_even cover x y)
    ∙ sym (risen cover (shared other one) (rises_kept (λ x. list_any (λ y. x == y) one) other more)))

pub left_turned : (cover : List (List ℕ)) (cubes partners : List (List ℕ)) → AreCubes cubes → AreCubes partners → left_out cover cubes partners ≡ left_out cover partners cubes
unfolding left_out
left_turned cover [] [] rise more = refl
left_turned cover [] (partner ∷ partners) rise more = refl
left_turned cover (cube ∷ cubes) [] rise more = refl
left_turned cover (cube ∷ cubes) (partner ∷ partners) rise more =
    ap₂ (λ (m n : ℕ). m + n) (shared_products cover cube partner rise.0 more.0) (left_turned cover cubes partners rise.1 more.1)

pub gains_split : (cover : List (List ℕ)) (cubes others partners : List (List ℕ)) → AreCubes cubes → gains_beside cover cubes others ≡ paired_gains cover cubes others partners + left_out cover cubes partners
unfolding gains
gains_split cover cubes others partners rise = let products = paired_split cover cubes partners rise in omega (arith, products)

beside_none : (cover : List (List ℕ)) (cubes : List (List ℕ)) → beside cover cubes [] ≡ 0
beside_none cover [] = refl
beside_none cover (cube ∷ cubes) =
    let first = sum_by-cons (λ one. sum_by (sum_gain cover one) []) cube cubes in
    let none : sum_by (sum_gain cover cube) [] ≡ 0 = refl in
    let rest : beside cover cubes [] ≡ 0 = beside_none cover cubes in
    omega (arith, first, none, rest)

-- cubes alone
pub gains_alone : (cover : List (List ℕ)) (cubes : List (List ℕ)) → AreCubes cubes → gains cover cubes ≡ paired_gains cover cubes [] []
gains_alone cover cubes rise =
    let whole : gains cover cubes + beside cover cubes [] ≡ paired_gains cover cubes [] [] + left_out cover cubes [] = gains_split cover cubes [] [] rise in
    let none : beside cover cubes [] ≡ 0 = beside_none cover cubes in
    let last : left_out cover cubes [] ≡ 0 = left_none cover cubes in
    omega (arith, whole, none, last)

-- ---- a loop over cubes

paired_here : (cover : List (List ℕ)) (cubes partners : List (List ℕ)) (i : ℕ) (d : List ℕ) → i < length cubes
    → paired_products cover (drop i cubes) (drop i partners) ≡ own_products cover (get_or cubes i d) (get_or partners i []) + paired_products cover (drop (i + 1) cubes) (drop (i + 1) partners)
unfolding paired_products
paired_here cover cubes partners i d lt =
    ap (λ (zs : List (List ℕ)). paired_products cover zs (drop i partners)) (drop-cons cubes i d lt)
    ∙ (ap₂ (λ (partner : List ℕ) (rest : List (List ℕ)). own_products cover (get_or cubes i d) partner + paired_products cover (drop (suc i) cubes) rest)
    (get_or-drop i partners 0 [] ∙ ap (λ (n : ℕ). get_or partners n []) (let z : i + 0 ≡ i = omega arith in z)) (drop-drop 1 i partners)
    ∙ ap (λ (n : ℕ). own_products cover (get_or cubes i d) (get_or partners i []) + paired_products cover (drop n cubes) (drop (i + 1) partners)) (let z : suc i ≡ i + 1 = omega arith in z))

pub paired_next : {X : Type 0} (cover : List (List ℕ)) (f : X → List ℕ) (xs : List X) (partners : List (List ℕ)) (i : ℕ) (d x : X) (cube partner : List ℕ) → i < length xs → x ≡ get_or xs i d → cube ≡ f x → partner ≡ get_or partners i []
    → paired_products cover (drop i (map f xs)) (drop i partners) ≡ own_products cover cube partner + paired_products cover (drop (i + 1) (map f xs)) (drop (i + 1) partners)
paired_next cover f xs partners i d x cube partner lt is cube_is partner_is =
    paired_here cover (map f xs) partners i (f d) (let long : length (map f xs) ≡ length xs = length-map xs f in omega (arith, lt, long))
    ∙ ap₂ (λ (one other : List ℕ). own_products cover one other + paired_products cover (drop (i + 1) (map f xs)) (drop (i + 1) partners))
    (get_or-map f xs i d (f d) lt ∙ (ap f (sym is) ∙ sym cube_is)) (sym partner_is)

pub paired_past : (cover : List (List ℕ)) (cubes partners : List (List ℕ)) (i : ℕ) → length cubes ≤ i → paired_products cover (drop i cubes) partners ≡ 0
unfolding paired_products
paired_past cover [] partners zero le = refl
paired_past cover [] partners (suc i) le = refl
paired_past cover (cube ∷ cubes) partners zero le = absurd (omega (arith, le))
paired_past cover (cube ∷ cubes) partners (suc i) le = paired_past cover cubes partners i (omega (arith, le))

pub partner_rises : (partners : List (List ℕ)) (i : ℕ) → AreCubes partners → IsStrictlySortedBy nat_cmp (get_or partners i [])
unfolding IsStrictlySortedBy
partner_rises [] i rise = tt
partner_rises (partner ∷ partners) zero rise = rise.0
partner_rises (partner ∷ partners) (suc i) rise = partner_rises partners i rise.1

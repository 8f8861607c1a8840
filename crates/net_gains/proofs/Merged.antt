-- What each of two rising lists has besides the other, number by number.
use Rattle.std.proofs.Common.{◌≡◌, ◌<◌, ◌+◌, ◌==◌, ◌≤◌, ◌⊎◌, inl, inr, get_or, drop-cons, ℕ, zero, suc, Bool, true, false, not, cond, ◌||◌, List, [], ◌∷◌, ◌++◌, ◌-◌, length, take, drop, Less, Equal, Greater, nat_cmp, refl, sym, ap, ap₂, ◌∙◌, subst, arith, append_assoc}
use Rattle.std.specs.List.{AllByRecursion, list_any}
use Rattle.std.specs.List.Sorted.{IsStrictlySortedBy}
use Rattle.std.proofs.lemmas.Bool.{false≢true, eq-eqb, ne_eqb, eqb-false}
use Rattle.std.specs.Cmp.{nat_cmp_is}
use Rattle.std.specs.Ordering.{ordering_reverse}
use Rattle.std.proofs.lemmas.Cmp.{ranked, nat_cmp_total}
use Rattle.std.proofs.lemmas.List.{length-drop}
use Rattle.std.proofs.Math.Seq.{take-length}
use Rattle.net_gains.specs.CodedGains.{own}

-- a number less than all of a list is not in it
pub absent_below : (x : ℕ) (ys : List ℕ) → AllByRecursion (λ y. nat_cmp x y ≡ Less) ys → list_any (λ y. x == y) ys ≡ false
absent_below x [] all = refl
absent_below x (y ∷ ys) all =
    let lt : x < y = ranked x y Less (sym all.0) in
    ap (λ (b : Bool). b || list_any (λ z. x == z) ys) (ne_eqb x y (λ e. omega (arith, lt, e))) ∙ absent_below x ys all.1

pub below_through : (x y : ℕ) (zs : List ℕ) → x < y → AllByRecursion (λ z. nat_cmp y z ≡ Less) zs → AllByRecursion (λ z. nat_cmp x z ≡ Less) zs
below_through x y [] lt all = tt
below_through x y (z ∷ zs) lt all = (less, below_through x y zs lt all.1)
  where
    less : nat_cmp x z ≡ Less
    less = let up : y < z = ranked y z Less (sym all.0) in sym (nat_cmp_is x z Less (omega (arith, lt, up)))

-- a number that a list lacks does not change what the list has besides another one
pub own_skip : (x : ℕ) (ys xs : List ℕ) → list_any (λ y. x == y) ys ≡ false → own ys (x ∷ xs) ≡ own ys xs
own_skip x [] xs none = refl
own_skip x (y ∷ ys) xs none = cases (x == y) refl none (own_skip x ys xs)
  where
    cases : (b : Bool) → (x == y) ≡ b → (b || list_any (λ z. x == z) ys) ≡ false → (list_any (λ z. x == z) ys ≡ false → own ys (x ∷ xs) ≡ own ys xs)
        → own (y ∷ ys) (x ∷ xs) ≡ own (y ∷ ys) xs
    cases true e h rest = absurd (false≢true (sym h))
    cases false e h rest =
        let apart : (y == x) ≡ false = ne_eqb y x (λ same. eqb-false x y e (sym same)) in
        ap (λ (b : Bool). cond (not (b || list_any (λ z. y == z) xs)) (y ∷ own ys (x ∷ xs)) (own ys (x ∷ xs))) apart
        ∙ ap (λ (zs : List ℕ). cond (not (list_any (λ z. y == z) xs)) (y ∷ zs) zs) (rest h)

pub own_kept : (x : ℕ) (xs ys : List ℕ) → list_any (λ y. x == y) ys ≡ false → own (x ∷ xs) ys ≡ x ∷ own xs ys
own_kept x xs ys none = ap (λ (b : Bool). cond (not b) (x ∷ own xs ys) (own xs ys)) none

pub own_gone : (x : ℕ) (xs ys : List ℕ) → list_any (λ y. x == y) ys ≡ true → own (x ∷ xs) ys ≡ own xs ys
own_gone x xs ys some = ap (λ (b : Bool). cond (not b) (x ∷ own xs ys) (own xs ys)) some

-- the tail of a rising list rises, and its head is less than all of it
pub rises_tail : (x : ℕ) (xs : List ℕ) → IsStrictlySortedBy nat_cmp (x ∷ xs) → IsStrictlySortedBy nat_cmp xs
unfolding IsStrictlySortedBy
rises_tail x xs h = h.1

pub rises_head : (x : ℕ) (xs : List ℕ) → IsStrictlySortedBy nat_cmp (x ∷ xs) → AllByRecursion (λ y. nat_cmp x y ≡ Less) xs
unfolding IsStrictlySortedBy
rises_head x xs h = h.0

pub rises_drop : (xs : List ℕ) (i : ℕ) → IsStrictlySortedBy nat_cmp xs → IsStrictlySortedBy nat_cmp (drop i xs)
rises_drop xs zero h = h
rises_drop [] (suc i) h = h
rises_drop (x ∷ xs) (suc i) h = rises_drop xs i (rises_tail x xs h)

-- the lesser of two first numbers is in its list alone
pub own_less : (x y : ℕ) (xs ys : List ℕ) → nat_cmp x y ≡ Less → IsStrictlySortedBy nat_cmp (y ∷ ys)
    → (own (x ∷ xs) (y ∷ ys) ≡ x ∷ own xs (y ∷ ys)) × (own (y ∷ ys) (x ∷ xs) ≡ own (y ∷ ys) xs)
own_less x y xs ys less rises =
    let none : list_any (λ z. x == z) (y ∷ ys) ≡ false = absent_below x (y ∷ ys) (less, below_through x y ys (ranked x y Less (sym less)) (rises_head y ys rises)) in
    (own_kept x xs (y ∷ ys) none, own_skip x (y ∷ ys) xs none)

-- a number that is first in both is in neither remainder
pub own_same : (x y : ℕ) (xs ys : List ℕ) → nat_cmp x y ≡ Equal → IsStrictlySortedBy nat_cmp (x ∷ xs) → own (x ∷ xs) (y ∷ ys) ≡ own xs ys
own_same x y xs ys same rises =
    let e : x ≡ y = ranked x y Equal (sym same) in
    let there : list_any (λ z. x == z) (y ∷ ys) ≡ true = ap (λ (b : Bool). b || list_any (λ z. x == z) ys) (eq-eqb x y e) in
    own_gone x xs (y ∷ ys) there
    ∙ (ap (λ (n : ℕ). own xs (n ∷ ys)) (sym e) ∙ own_skip x xs ys (absent_below x xs (rises_head x xs rises)))

-- two numbers exchanged
pub turned_less : (x y : ℕ) → nat_cmp x y ≡ Greater → nat_cmp y x ≡ Less
turned_less x y h = nat_cmp_total.antisymm y x ∙ ap ordering_reverse h

pub turned_same : (x y : ℕ) → nat_cmp x y ≡ Equal → nat_cmp y x ≡ Equal
turned_same x y h = nat_cmp_total.antisymm y x ∙ ap ordering_reverse h

-- a loop along both lists
pub merged_less : (xs ys whole made after : List ℕ) (i j d e : ℕ) → i < length xs → j < length ys → IsStrictlySortedBy nat_cmp ys → nat_cmp (get_or xs i d) (get_or ys j e) ≡ Less
    → after ≡ made ++ get_or xs i d ∷ [] → made ++ own (drop i xs) (drop j ys) ≡ whole → after ++ own (drop (i + 1) xs) (drop j ys) ≡ whole
merged_less xs ys whole made after i j d e lt under rises less put h =
    let x : ℕ = get_or xs i d in
    let y : ℕ = get_or ys j e in
    let left : drop i xs ≡ x ∷ drop (suc i) xs = drop-cons xs i d lt in
    let right : drop j ys ≡ y ∷ drop (suc j) ys = drop-cons ys j e under in
    let step = own_less x y (drop (suc i) xs) (drop (suc j) ys) less (subst (IsStrictlySortedBy nat_cmp) right (rises_drop ys j rises)) in
    ap₂ (λ (zs : List ℕ) (n : ℕ). zs ++ own (drop n xs) (drop j ys)) put (let z : i + 1 ≡ suc i = omega arith in z)
    ∙ (append_assoc made (x ∷ []) (own (drop (suc i) xs) (drop j ys))
    ∙ (ap (λ (zs : List ℕ). made ++ x ∷ own (drop (suc i) xs) zs) right
    ∙ (ap (λ (zs : List ℕ). made ++ zs) (sym step.0 ∙ sym (ap₂ own left right)) ∙ h)))

pub merged_beside : (xs ys whole made : List ℕ) (i j d e : ℕ) → i < length xs → j < length ys → IsStrictlySortedBy nat_cmp ys → nat_cmp (get_or xs i d) (get_or ys j e) ≡ Less
    → made ++ own (drop j ys) (drop i xs) ≡ whole → made ++ own (drop j ys) (drop (i + 1) xs) ≡ whole
merged_beside xs ys whole made i j d e lt under rises less h =
    let x : ℕ = get_or xs i d in
    let y : ℕ = get_or ys j e in
    let left : drop i xs ≡ x ∷ drop (suc i) xs = drop-cons xs i d lt in
    let right : drop j ys ≡ y ∷ drop (suc j) ys = drop-cons ys j e under in
    let step = own_less x y (drop (suc i) xs) (drop (suc j) ys) less (subst (IsStrictlySortedBy nat_cmp) right (rises_drop ys j rises)) in
    ap (λ (n : ℕ). made ++ own (drop j ys) (drop n xs)) (let z : i + 1 ≡ suc i = omega arith in z)
    ∙ (ap (λ (zs : List ℕ). made ++ own zs (drop (suc i) xs)) right
    ∙ (ap (λ (zs : List ℕ). made ++ zs) (sym step.1 ∙ sym (ap₂ own right left)) ∙ h))

pub merged_same : (xs ys whole made : List ℕ) (i j d e : ℕ) → i < length xs → j < length ys → IsStrictlySortedBy nat_cmp xs → nat_cmp (get_or xs i d) (get_or ys j e) ≡ Equal
    → made ++ own (drop i xs) (drop j ys) ≡ whole → made ++ own (drop (i + 1) xs) (drop (j + 1) ys) ≡ whole
merged_same xs ys whole made i j d e lt under rises same h =
    let x : ℕ = get_or xs i d in
    let y : ℕ = get_or ys j e in
    let left : drop i xs ≡ x ∷ drop (suc i) xs = drop-cons xs i d lt in
    let right : drop j ys ≡ y ∷ drop (suc j) ys = drop-cons ys j e under in
    let step = own_same x y (drop (suc i) xs) (drop (suc j) ys) same (subst (IsStrictlySortedBy nat_cmp) left (rises_drop xs i rises)) in
    ap₂ (λ (n m : ℕ). made ++ own (drop n xs) (drop m ys)) (let z : i + 1 ≡ suc i = omega arith in z) (let z : j + 1 ≡ suc j = omega arith in z)
    ∙ (ap (λ (zs : List ℕ). made ++ zs) (sym step ∙ sym (ap₂ own left right)) ∙ h)

pub own_none : (xs : List ℕ) → own xs [] ≡ xs
own_none [] = refl
own_none (x ∷ xs) = ap (λ (zs : List ℕ). x ∷ zs) (own_none xs)

drop_past : (zs : List ℕ) (n : ℕ) → length zs ≤ n → drop n zs ≡ []
drop_past [] zero le = refl
drop_past [] (suc n) le = refl
drop_past (z ∷ zs) zero le = absurd (omega (arith, le))
drop_past (z ∷ zs) (suc n) le = drop_past zs n (omega (arith, le))

-- what is left when one list has ended
pub merged_all : (xs ys whole made after : List ℕ) (i j : ℕ) → (length xs ≤ i) ⊎ (length ys ≤ j) → after ≡ made ++ take (length xs - i) (drop i xs) → made ++ own (drop i xs) (drop j ys) ≡ whole → after ≡ whole
merged_all xs ys whole made after i j end put h = put ∙ (ap (λ (zs : List ℕ). made ++ zs) (taken ∙ sym (left end)) ∙ h)
  where
    taken : take (length xs - i) (drop i xs) ≡ drop i xs
    taken = ap (λ (n : ℕ). take n (drop i xs)) (sym (length-drop i xs)) ∙ take-length (drop i xs)

    left : (length xs ≤ i) ⊎ (length ys ≤ j) → own (drop i xs) (drop j ys) ≡ drop i xs
    left (inl le) = ap (λ (zs : List ℕ). own zs (drop j ys)) (drop_past xs i le) ∙ sym (drop_past xs i le)
    left (inr le) = ap (own (drop i xs)) (drop_past ys j le) ∙ own_none (drop i xs)

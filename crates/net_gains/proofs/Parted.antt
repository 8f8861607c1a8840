-- What cubes save together, in any order, and split into two lists.
use Rattle.std.proofs.Common.{◌≡◌, ℕ, ◌+◌, ◌-◌, ◌==◌, Bool, true, false, ◌&&◌, not, cond, List, [], ◌∷◌, ◌++◌, length, filter, Contains, bytes_eq, Less, nat_cmp, eq-eqb, eqb-true, refl, sym, ap, ap₂, ◌∙◌, subst, inl, inr, arith}
use Rattle.std.specs.List.{sum_by, list_any, AllByRecursion}
use Rattle.std.specs.List.Sorted.{IsStrictlySortedBy}
use Rattle.std.proofs.lemmas.Bool.{false≢true, or_cases, or_left, or_right, and_parts, not-true, not_from_false}
use Rattle.std.proofs.lemmas.Cmp.{nat_cmp_total}
use Rattle.std.proofs.lemmas.List.Sums.{sum_by-cons, sum_by-append}
use Rattle.std.proofs.lemmas.Map.Lookups.{exact_unsigned}
use Rattle.std.proofs.lemmas.Slice.Eq.{bytes_eq-Decides}
use Rattle.circuit_model.specs.Names.{has, all_different}
use Rattle.cover_names.proofs.Members.{Has, contains_has, has_contains}
use Rattle.cover_names.proofs.Orders.{IsOrder, lists_order, not_below_itself}
use Rattle.cover_names.proofs.Sorts.{sorted_told}
use Rattle.net_gains.specs.Gains.{over_pairs}
use Rattle.net_gains.specs.CodedGains.{numbers_cmp, shared, own, same_lists, is_one, sum_of_two, sum_gain, product_gain, gains}
use Rattle.net_gains.specs.Totals.{AreCubes}
use Rattle.net_gains.specs.Turning.{among, apart, gains_beside}
use Rattle.net_gains.proofs.OverPairs.{has_left, has_right, has_append, kept_has, has_kept, AreOnce, once_kept, once_append, AreSame, sum_same, pairs_same, pairs_append}

-- ---- sums of two, in either order

swapped : {X : Type 0} (x y z : X) → Contains (x ∷ y ∷ []) z → Contains (y ∷ x ∷ []) z
swapped x y z m =
    contains_has z (y ∷ x ∷ []) (elim (has_contains z (x ∷ y ∷ []) m) as (λ _. Has z (y ∷ x ∷ [])) [
      | inl e ↦ inr (inl e)
      | inr n ↦ elim n as (λ _. Has z (y ∷ x ∷ [])) [ inl e ↦ inl e | inr k ↦ absurd k ]
    ])

numbers_order : IsOrder numbers_cmp
numbers_order = lists_order {cmp = nat_cmp} (record { total = nat_cmp_total; same = exact_unsigned })

sum_turned : (one other : List ℕ) → sum_of_two one other ≡ sum_of_two other one
sum_turned one other =
    sorted_told numbers_order (own one other ∷ own other one ∷ []) (own other one ∷ own one other ∷ [])
    (λ cube. (swapped (own one other) (own other one) cube, swapped (own other one) (own one other) cube))

-- ---- what two cubes share, in either order

pub number_has : (x : ℕ) (xs : List ℕ) → list_any (λ y. x == y) xs ≡ true → Has x xs
number_has x [] h = absurd (false≢true h)
number_has x (first ∷ xs) h =
    elim (or_cases (x == first) (list_any (λ y. x == y) xs) h) as (λ _. Has x (first ∷ xs)) [ inl e ↦ inl (eqb-true x first e) | inr n ↦ inr (number_has x xs n) ]

pub has_number : (x : ℕ) (xs : List ℕ) → Has x xs → list_any (λ y. x == y) xs ≡ true
has_number x [] m = absurd m
has_number x (first ∷ xs) m =
    elim m as (λ _. list_any (λ y. x == y) (first ∷ xs) ≡ true) [
      | inl e ↦ or_left (x == first) (list_any (λ y. x == y) xs) (eq-eqb x first e)
      | inr n ↦ or_right (x == first) (list_any (λ y. x == y) xs) (has_number x xs n)
    ]

above_has : (x : ℕ) (xs : List ℕ) → AllByRecursion (λ y. nat_cmp x y ≡ Less) xs → (y : ℕ) → Has y xs → nat_cmp x y ≡ Less
above_has x [] all y m = absurd m
above_has x (first ∷ xs) all y m =
    elim m as (λ _. nat_cmp x y ≡ Less) [ inl e ↦ subst (λ (z : ℕ). nat_cmp x z ≡ Less) (sym e) all.0 | inr n ↦ above_has x xs all.1 y n ]

pub rising_once : (xs : List ℕ) → IsStrictlySortedBy nat_cmp xs → AreOnce xs
unfolding IsStrictlySortedBy
rising_once [] rises = tt
rising_once (x ∷ xs) rises = (λ m. not_below_itself nat_cmp_total x (above_has x xs rises.0 x m), rising_once xs rises.1)

shared_back : (one other : List ℕ) (x : ℕ) → Has x (shared one other) → Has x (shared other one)
shared_back one other x m =
    let parts = kept_has (λ y. list_any (λ z. y == z) other) one x m in
    has_kept (λ y. list_any (λ z. y == z) one) other x (number_has x other parts.1) (has_number x one parts.0)

count_is : {X : Type 0} (xs : List X) → sum_by (λ x. 1) xs ≡ length xs
count_is [] = refl
count_is (x ∷ xs) = let cons = sum_by-cons (λ y. 1) x xs in let rest = count_is xs in omega (arith, cons, rest)

pub shared_same : (one other : List ℕ) → IsStrictlySortedBy nat_cmp one → IsStrictlySortedBy nat_cmp other → AreSame (shared one other) (shared other one)
shared_same one other rises more = record {
  once = once_kept (λ y. list_any (λ z. y == z) other) one (rising_once one rises);
  other_once = once_kept (λ y. list_any (λ z. y == z) one) other (rising_once other more);
  there = shared_back one other;
  back = shared_back other one;
}

shared_turned : (one other : List ℕ) → IsStrictlySortedBy nat_cmp one → IsStrictlySortedBy nat_cmp other → length (shared one other) ≡ length (shared other one)
shared_turned one other rises more =
    sym (count_is (shared one other)) ∙ (sum_same (λ x. 1) (shared one other) (shared other one) (shared_same one other rises more) ∙ count_is (shared other one))

-- ---- what two cubes save, in either order

gain_turned : (cover : List (List ℕ)) (one other : List ℕ) → IsStrictlySortedBy nat_cmp one → IsStrictlySortedBy nat_cmp other → sum_gain cover one other ≡ sum_gain cover other one
unfolding sum_gain
gain_turned cover one other rises more =
    ap₂ (λ (number : ℕ) (made : List (List ℕ)). cond (not (is_one (own one other)) && not (is_one (own other one)) && same_lists cover made) number 0)
    (let e : length (shared one other) ≡ length (shared other one) = shared_turned one other rises more in
    let f : length (shared one other) + length (own one other) + length (own other one) - 1 ≡ length (shared other one) + length (own other one) + length (own one other) - 1 = omega (arith, e) in f) (sum_turned one other)
    ∙ ap (λ (b : Bool). cond b (length (shared other one) + length (own other one) + length (own one other) - 1) 0)
    (commute (not (is_one (own one other))) (not (is_one (own other one))) (same_lists cover (sum_of_two other one)))
  where
    commute : (a b c : Bool) → (a && b && c) ≡ (b && a && c)
    commute true true c = refl
    commute true false c = refl
    commute false true c = refl
    commute false false c = refl

-- ---- cubes in another order

gains_same : (cover : List (List ℕ)) (xs ys : List (List ℕ)) → AreSame xs ys → ((cube : List ℕ) → Has cube ys → IsStrictlySortedBy nat_cmp cube) → gains cover xs ≡ gains cover ys
unfolding gains
gains_same cover xs ys same rise =
    ap₂ (λ (m n : ℕ). m + n)
    (pairs_same (sum_gain cover) xs ys same (λ one other m n. gain_turned cover one other (rise one m) (rise other n)))
    (sum_same (over_pairs (product_gain cover)) xs ys same)

gains_joined : (cover : List (List ℕ)) (cubes kept : List (List ℕ)) → gains cover (cubes ++ kept) ≡ gains_beside cover cubes kept + gains cover kept
unfolding gains
gains_joined cover cubes kept =
    let pairs = pairs_append (sum_gain cover) cubes kept in
    let products = sum_by-append (over_pairs (product_gain cover)) cubes kept in
    omega (arith, pairs, products)

-- ---- cubes that are among others, and those that are not

named_has : (cubes : List (List ℕ)) (cube : List ℕ) → has cubes cube ≡ true → Has cube cubes
named_has [] cube h = absurd (false≢true h)
named_has (first ∷ cubes) cube h =
    elim (or_cases (bytes_eq cube first) (has cubes cube) h) as (λ _. Has cube (first ∷ cubes)) [ inl e ↦ inl ((bytes_eq-Decides cube first).0 e) | inr n ↦ inr (named_has cubes cube n) ]

has_named : (cubes : List (List ℕ)) (cube : List ℕ) → Has cube cubes → has cubes cube ≡ true
has_named [] cube m = absurd m
has_named (first ∷ cubes) cube m =
    elim m as (λ _. has (first ∷ cubes) cube ≡ true) [
      | inl e ↦ or_left (bytes_eq cube first) (has cubes cube) ((bytes_eq-Decides cube first).1 e)
      | inr n ↦ or_right (bytes_eq cube first) (has cubes cube) (has_named cubes cube n)
    ]

different_once : (cubes : List (List ℕ)) → all_different cubes ≡ true → AreOnce cubes
unfolding all_different
different_once [] h = tt
different_once (cube ∷ cubes) h =
    let parts = and_parts (not (has cubes cube)) (all_different cubes) h in
    (λ m. false≢true (sym (not-true (has cubes cube) parts.0) ∙ has_named cubes cube m), different_once cubes parts.1)

all_rise : (cubes : List (List ℕ)) → AreCubes cubes → (cube : List ℕ) → Has cube cubes → IsStrictlySortedBy nat_cmp cube
all_rise [] all cube m = absurd m
all_rise (first ∷ cubes) all cube m =
    elim m as (λ _. IsStrictlySortedBy nat_cmp cube) [ inl e ↦ subst (IsStrictlySortedBy nat_cmp) (sym e) all.0 | inr n ↦ all_rise cubes all.1 cube n ]

pub cubes_kept : (test : List ℕ → Bool) (cubes : List (List ℕ)) → AreCubes cubes → AreCubes (filter test cubes)
cubes_kept test [] all = tt
cubes_kept test (cube ∷ cubes) all = cases (test cube) (cubes_kept test cubes all.1)
  where
    cases : (b : Bool) → AreCubes (filter test cubes) → AreCubes (cond b (cube ∷ filter test cubes) (filter test cubes))
    cases true rest = (all.0, rest)
    cases false rest = rest

-- cubes are those that are not among others, and those that are
parted_same : (old new cubes others : List (List ℕ)) → AreOnce old → AreOnce cubes → ((cube : List ℕ) → Has cube (among new old) → Has cube cubes)
    → ((cube : List ℕ) → Has cube cubes → has others cube ≡ true → Has cube (among new old)) → ((cube : List ℕ) → Has cube (among new old) → Has cube others)
    → AreSame cubes (apart others cubes ++ among new old)
parted_same old new cubes others first second kept back other = record {
  once = second;
  other_once = once_append (apart others cubes) (among new old) (once_kept (λ cube. not (has others cube)) cubes second) (once_kept (has new) old first)
      (λ cube m n. false≢true (sym (not-true (has others cube) (kept_has (λ cube. not (has others cube)) cubes cube m).1) ∙ has_named others cube (other cube n)));
  there = λ cube m. cases cube m (has others cube) refl;
  back = λ cube m. elim (has_append cube (apart others cubes) (among new old) m) as (λ _. Has cube cubes) [
    | inl k ↦ (kept_has (λ cube. not (has others cube)) cubes cube k).0
    | inr k ↦ kept cube k
  ];
}
  where
    cases : (cube : List ℕ) → Has cube cubes → (b : Bool) → has others cube ≡ b → Has cube (apart others cubes ++ among new old)
    cases cube m true e = has_right cube (apart others cubes) (among new old) (back cube m e)
    cases cube m false e = has_left cube (apart others cubes) (among new old) (has_kept (λ cube. not (has others cube)) cubes cube m (not_from_false (has others cube) e))

module _ (cover : List (List ℕ)) (old new : List (List ℕ)) (rise : AreCubes old) (once : all_different old ≡ true) where
  pub old_parted : gains cover old ≡ gains_beside cover (apart new old) (among new old) + gains cover (among new old)
  old_parted =
      gains_same cover old (apart new old ++ among new old) same (λ cube m. all_rise old rise cube (same.back cube m))
      ∙ gains_joined cover (apart new old) (among new old)
    where
      same : AreSame old (apart new old ++ among new old)
      same =
          parted_same old new old new (different_once old once) (different_once old once) (λ cube m. (kept_has (has new) old cube m).0) (λ cube m e. has_kept (has new) old cube m e)
          (λ cube m. named_has new cube (kept_has (has new) old cube m).1)

  pub new_parted : AreCubes new → all_different new ≡ true → gains cover new ≡ gains_beside cover (apart old new) (among new old) + gains cover (among new old)
  new_parted new_rise new_once =
      gains_same cover new (apart old new ++ among new old) same (λ cube m. all_rise new new_rise cube (same.back cube m))
      ∙ gains_joined cover (apart old new) (among new old)
    where
      same : AreSame new (apart old new ++ among new old)
      same =
          parted_same old new new old (different_once old once) (different_once new new_once) (λ cube m. named_has new cube (kept_has (has new) old cube m).1)
          (λ cube m e. has_kept (has new) old cube (named_has old cube e) (has_named new cube m)) (λ cube m. (kept_has (has new) old cube m).0)

-- Literals and points of cubes by the bits of their planes.
use Rattle.std.proofs.Common.{◌≡◌, ℕ, ◌+◌, ◌-◌, ◌*◌, ◌/◌, ◌%◌, ◌<◌, ◌≤◌, min, max, zero, suc, Bool, true, false, cond, ◌==◌, eqb-true, Option, Some, None, List, [], ◌∷◌, length, get_or, set, take, drop, replicate, refl, sym, ap, ◌∙◌, subst, arith, IsTrue, ◌↔◌, IfSome, inl, inr, ◌⊎◌, bit_and, bit_or}
use Rattle.std.proofs.lemmas.Bool.{and_from, and_parts, cases_lt, cases_eq, eqb-false}
use Rattle.std.proofs.lemmas.List.{length-map, length-take, length-drop, length-set, length-replicate, get_or-map, get_or-set_same, get_or-set_other, get_or-replicate, ext_get_or, take-replicate, drop-replicate}
use Rattle.std.proofs.lemmas.List.FromFn.{length-range_with_len, get_or-range_with_len}
use Rattle.std.proofs.lemmas.Nat.Bits.{bit_at-lt, bit_at-zero}
use Rattle.std.proofs.lemmas.Simd.{length-zip2}
use Rattle.std.specs.Simd.Lanes.{zip2}
use Rattle.std.specs.Int.{bit_at}
use Rattle.std.specs.List.{range_with_len, refill}
use Rattle.cube_cover.specs.Covers.{Intersects, ContainsRow, IsProduct, product_of, shared_of}
use Rattle.cube_cover.specs.Literals.{literals_intersect, rows_intersect, literal_contains, row_contains, literal_product, literal_shared, not_dash, all_dashes}
use Rattle.cube_cover.proofs.Products.{intersects_answer, contains_answer, test_from_intersects, product_points, length-product_of}
use Rattle.cube_cover.proofs.Dashes.{all_from}
use Rattle.cube_cover.proofs.Turned.{length-shared_of, shared_at, product_at}
use Rattle.cube_packed.specs.Planes.{plane_words, plane_bit, literal_of, plane_literals, packed_literals, AreApart, IsWithin, AreCube, IsPacked, HasBitSet, has_sign}
use Rattle.cube_packed.proofs.PlaneBits.{joined_bit, common_bit, same_answers}
use Rattle.cube_packed.proofs.PlaneLoops.{take_zip2, drop_zip2, refill_same}

-- ---- literals of columns
pub length-plane_literals : (w : ℕ) (p n : List ℕ) → length (plane_literals w p n) ≡ w
unfolding plane_literals
length-plane_literals w p n = length-map (range_with_len 0 w) (λ c. literal_of (plane_bit p c) (plane_bit n c)) ∙ length-range_with_len 0 w

plane_literal : (w : ℕ) (p n : List ℕ) (i : ℕ) → i < w → get_or (plane_literals w p n) i None ≡ literal_of (plane_bit p i) (plane_bit n i)
unfolding plane_literals
plane_literal w p n i lt =
    let f = λ (c : ℕ). literal_of (plane_bit p c) (plane_bit n c) in
    let at : get_or (range_with_len 0 w) i 0 ≡ i = omega (arith, get_or-range_with_len 0 w i 0 lt) in
    get_or-map f (range_with_len 0 w) i 0 None (omega (arith, length-range_with_len 0 w)) ∙ ap f at

-- the literal of a column of a row that two planes hold
pub literal_at : (row : List (Option Bool)) (p n : List ℕ) → plane_literals (length row) p n ≡ row → (i : ℕ) → i < length row → get_or row i None ≡ literal_of (plane_bit p i) (plane_bit n i)
literal_at row p n e i lt = sym (ap (λ (l : List (Option Bool)). get_or l i None) e) ∙ plane_literal (length row) p n i lt

pub literals_from_at : (w : ℕ) (p n : List ℕ) (row : List (Option Bool)) → length row ≡ w → ((i : ℕ) → i < w → literal_of (plane_bit p i) (plane_bit n i) ≡ get_or row i None) → plane_literals w p n ≡ row
literals_from_at w p n row e h =
    ext_get_or None (plane_literals w p n) row (length-plane_literals w p n ∙ sym e)
    (λ i lt. let le : i < w = omega (arith, length-plane_literals w p n) in plane_literal w p n i le ∙ h i le)

positive_of : (p n : ℕ) → 0 < p → literal_of p n ≡ Some true
positive_of zero n h = absurd (omega arith)
positive_of (suc p) n h = refl

negative_of : (p n : ℕ) → p ≡ 0 → 0 < n → literal_of p n ≡ Some false
negative_of zero zero e h = absurd (omega arith)
negative_of zero (suc n) e h = refl
negative_of (suc p) n e h = absurd (omega arith)

pub positive_at : (row : List (Option Bool)) (p n : List ℕ) (i : ℕ) → plane_literals (length row) p n ≡ row → i < length row → (plane_bit p i == 1) ≡ true → Some true ≡ get_or row i None
positive_at row p n i e lt h = sym (literal_at row p n e i lt ∙ positive_of (plane_bit p i) (plane_bit n i) (omega (arith, eqb-true _ _ h)))

zero_from_not_one : (b : ℕ) → b < 2 → (b == 1) ≡ false → b ≡ 0
zero_from_not_one b lt h = cases (cases_eq b 1)
  where
    cases : (b ≡ 1) ⊎ (b ≡ 1 → ⊥) → b ≡ 0
    cases (inl e) = absurd (eqb-false b 1 h e)
    cases (inr ne) = omega arith

pub negative_at : (row : List (Option Bool)) (p n : List ℕ) (i : ℕ) → plane_literals (length row) p n ≡ row → i < length row → (plane_bit p i == 1) ≡ false → (plane_bit n i == 1) ≡ true → Some false ≡ get_or row i None
negative_at row p n i e lt h k =
    sym (literal_at row p n e i lt ∙ negative_of (plane_bit p i) (plane_bit n i) (zero_from_not_one (plane_bit p i) (bit_at-lt _ _) h) (omega (arith, eqb-true _ _ k)))

pub dash_at : (row : List (Option Bool)) (p n : List ℕ) (i : ℕ) → plane_literals (length row) p n ≡ row → i < length row → (plane_bit p i == 1) ≡ false → (plane_bit n i == 1) ≡ false → None ≡ get_or row i None
dash_at row p n i e lt h k =
    let p0 : plane_bit p i ≡ 0 = zero_from_not_one (plane_bit p i) (bit_at-lt _ _) h in
    let n0 : plane_bit n i ≡ 0 = zero_from_not_one (plane_bit n i) (bit_at-lt _ _) k in
    sym (literal_at row p n e i lt ∙ ap (λ x. literal_of x (plane_bit n i)) p0 ∙ ap (literal_of 0) n0)

-- ---- rows that intersect
intersect_at : (a b : List (Option Bool)) (i : ℕ) → length a ≡ length b → rows_intersect a b ≡ true → literals_intersect (get_or a i None) (get_or b i None) ≡ true
unfolding rows_intersect
intersect_at [] b i e h = refl
intersect_at (l ∷ ls) [] i e h = absurd (omega arith)
intersect_at (l ∷ ls) (m ∷ ms) zero e h = (and_parts (literals_intersect l m) (rows_intersect ls ms) h).0
intersect_at (l ∷ ls) (m ∷ ms) (suc i) e h = intersect_at ls ms i (omega arith) (and_parts (literals_intersect l m) (rows_intersect ls ms) h).1

intersect_from_at : (a b : List (Option Bool)) → ((i : ℕ) → i < length a → literals_intersect (get_or a i None) (get_or b i None) ≡ true) → rows_intersect a b ≡ true
unfolding rows_intersect
intersect_from_at [] b h = refl
intersect_from_at (l ∷ ls) [] h = refl
intersect_from_at (l ∷ ls) (m ∷ ms) h = and_from _ _ (h 0 (omega arith)) (intersect_from_at ls ms (λ i lt. h (suc i) (omega arith)))

intersect_by_bits : (p n q m : ℕ) → min p m ≡ 0 → min n q ≡ 0 → literals_intersect (literal_of p n) (literal_of q m) ≡ true
intersect_by_bits zero zero q m h k = refl
intersect_by_bits zero (suc n) zero zero h k = refl
intersect_by_bits zero (suc n) zero (suc m) h k = refl
intersect_by_bits zero (suc n) (suc q) m h k = absurd (omega arith)
intersect_by_bits (suc p) n zero zero h k = refl
intersect_by_bits (suc p) n zero (suc m) h k = absurd (omega arith)
intersect_by_bits (suc p) n (suc q) m h k = refl

bits_by_intersect : (p n q m : ℕ) → min p n ≡ 0 → min q m ≡ 0 → literals_intersect (literal_of p n) (literal_of q m) ≡ true → (min p m ≡ 0) × (min n q ≡ 0)
bits_by_intersect zero zero q m d e h = (omega arith, omega arith)
bits_by_intersect zero (suc n) zero m d e h = (omega arith, omega arith)
bits_by_intersect zero (suc n) (suc q) m d e h = absurd cc
bits_by_intersect (suc p) n zero zero d e h = (omega arith, omega arith)
bits_by_intersect (suc p) n zero (suc m) d e h = absurd cc
bits_by_intersect (suc p) n (suc q) m d e h = (omega arith, omega arith)

bits_of_rows : (a b : List (Option Bool)) (p n q m : List ℕ) → length a ≡ length b → plane_literals (length a) p n ≡ a → plane_literals (length b) q m ≡ b
    → AreCube (length a) p n → AreCube (length b) q m → rows_intersect a b ≡ true → AreApart p m × AreApart n q
bits_of_rows a b p n q m e ea eb ca cb h = (λ i. (each i (cases_lt i (length a))).0, λ i. (each i (cases_lt i (length a))).1)
  where
    each : (i : ℕ) → (i < length a) ⊎ (length a ≤ i) → (min (plane_bit p i) (plane_bit m i) ≡ 0) × (min (plane_bit n i) (plane_bit q i) ≡ 0)
    each i (inl lt) =
        bits_by_intersect (plane_bit p i) (plane_bit n i) (plane_bit q i) (plane_bit m i) (ca.apart i) (cb.apart i)
        (rw (← literal_at a p n ea i lt, ← literal_at b q m eb i (omega arith)) (intersect_at a b i e h))
    each i (inr le) = (omega (arith, ca.positive_end i le), omega (arith, ca.negative_end i le))

-- what the tests of two planes with two others answer
pub intersects_by_planes : (a b : List (Option Bool)) (p n q m : List ℕ) → length a ≡ length b → plane_literals (length a) p n ≡ a → plane_literals (length b) q m ≡ b
    → AreCube (length a) p n → AreCube (length b) q m → (r : Bool) → (r ≡ true → AreApart p m × AreApart n q) → (AreApart p m → AreApart n q → r ≡ true) → IsTrue r ↔ Intersects a b
intersects_by_planes a b p n q m e ea eb ca cb r h k = intersects_answer a b e r (same_answers r (rows_intersect a b) there back)
  where
    there : r ≡ true → rows_intersect a b ≡ true
    there t =
        intersect_from_at a b (λ i lt.
        rw (literal_at a p n ea i lt, literal_at b q m eb i (omega arith)) (intersect_by_bits (plane_bit p i) (plane_bit n i) (plane_bit q i) (plane_bit m i) ((h t).0 i) ((h t).1 i)))

    back : rows_intersect a b ≡ true → r ≡ true
    back t = let both = bits_of_rows a b p n q m e ea eb ca cb t in k both.0 both.1

-- ---- a row that contains another
contains_at : (a b : List (Option Bool)) (i : ℕ) → length a ≡ length b → row_contains a b ≡ true → literal_contains (get_or a i None) (get_or b i None) ≡ true
unfolding row_contains
contains_at [] b i e h = refl
contains_at (l ∷ ls) [] i e h = absurd (omega arith)
contains_at (l ∷ ls) (m ∷ ms) zero e h = (and_parts (literal_contains l m) (row_contains ls ms) h).0
contains_at (l ∷ ls) (m ∷ ms) (suc i) e h = contains_at ls ms i (omega arith) (and_parts (literal_contains l m) (row_contains ls ms) h).1

contains_from_at : (a b : List (Option Bool)) → ((i : ℕ) → i < length a → literal_contains (get_or a i None) (get_or b i None) ≡ true) → row_contains a b ≡ true
unfolding row_contains
contains_from_at [] b h = refl
contains_from_at (l ∷ ls) [] h = refl
contains_from_at (l ∷ ls) (m ∷ ms) h = and_from _ _ (h 0 (omega arith)) (contains_from_at ls ms (λ i lt. h (suc i) (omega arith)))

contains_by_bits : (p n q m : ℕ) → p ≤ q → n ≤ m → min q m ≡ 0 → literal_contains (literal_of p n) (literal_of q m) ≡ true
contains_by_bits zero zero q m h k e = refl
contains_by_bits zero (suc n) zero zero h k e = absurd (omega arith)
contains_by_bits zero (suc n) zero (suc m) h k e = refl
contains_by_bits zero (suc n) (suc q) m h k e = absurd (omega arith)
contains_by_bits (suc p) n zero m h k e = absurd (omega arith)
contains_by_bits (suc p) n (suc q) m h k e = refl

bits_by_contains : (p n q m : ℕ) → p < 2 → n < 2 → min p n ≡ 0 → literal_contains (literal_of p n) (literal_of q m) ≡ true → (p ≤ q) × (n ≤ m)
bits_by_contains zero zero q m d e g h = (omega arith, omega arith)
bits_by_contains zero (suc n) zero zero d e g h = absurd cc
bits_by_contains zero (suc n) zero (suc m) d e g h = (omega arith, omega arith)
bits_by_contains zero (suc n) (suc q) m d e g h = absurd cc
bits_by_contains (suc p) n zero zero d e g h = absurd cc
bits_by_contains (suc p) n zero (suc m) d e g h = absurd cc
bits_by_contains (suc p) n (suc q) m d e g h = (omega arith, omega arith)

pub contains_by_planes : (a b : List (Option Bool)) (p n q m : List ℕ) → length a ≡ length b → plane_literals (length a) p n ≡ a → plane_literals (length b) q m ≡ b
    → AreCube (length a) p n → AreCube (length b) q m → (r : Bool) → (r ≡ true → IsWithin p q × IsWithin n m) → (IsWithin p q → IsWithin n m → r ≡ true) → IsTrue r ↔ ContainsRow a b
contains_by_planes a b p n q m e ea eb ca cb r h k = contains_answer a b e r (same_answers r (row_contains a b) there back)
  where
    there : r ≡ true → row_contains a b ≡ true
    there t =
        contains_from_at a b (λ i lt.
        rw (literal_at a p n ea i lt, literal_at b q m eb i (omega arith)) (contains_by_bits (plane_bit p i) (plane_bit n i) (plane_bit q i) (plane_bit m i) ((h t).0 i) ((h t).1 i) (cb.apart i)))

    each : row_contains a b ≡ true → (i : ℕ) → (i < length a) ⊎ (length a ≤ i) → (plane_bit p i ≤ plane_bit q i) × (plane_bit n i ≤ plane_bit m i)
    each t i (inl lt) =
        bits_by_contains (plane_bit p i) (plane_bit n i) (plane_bit q i) (plane_bit m i) (bit_at-lt _ _) (bit_at-lt _ _) (ca.apart i)
        (rw (← literal_at a p n ea i lt, ← literal_at b q m eb i (omega arith)) (contains_at a b i e t))
    each t i (inr le) = (omega (arith, ca.positive_end i le), omega (arith, ca.negative_end i le))

    back : row_contains a b ≡ true → r ≡ true
    back t = k (λ i. (each t i (cases_lt i (length a))).0) (λ i. (each t i (cases_lt i (length a))).1)

-- ---- the product
product_by_bits : (p n q m : ℕ) → min n q ≡ 0 → min p n ≡ 0 → literal_of (max p q) (max n m) ≡ literal_product (literal_of p n) (literal_of q m)
product_by_bits zero zero q m h d = let e : max zero q ≡ q = omega arith in let f : max zero m ≡ m = omega arith in cc
product_by_bits zero (suc n) q m h d = negative_of (max zero q) (max (suc n) m) (omega arith) (omega arith)
product_by_bits (suc p) n q m h d = positive_of (max (suc p) q) (max n m) (omega arith)

apart_joined : (p n q m : ℕ) → min p n ≡ 0 → min q m ≡ 0 → min p m ≡ 0 → min n q ≡ 0 → min (max p q) (max n m) ≡ 0
apart_joined p n q m d e h k = omega arith

-- the words of a product are the words of both joined
pub product_by_planes : (a b : List (Option Bool)) (p n q m : List ℕ) → length a ≡ length b → plane_literals (length a) p n ≡ a → plane_literals (length b) q m ≡ b
    → AreCube (length a) p n → AreCube (length b) q m → Intersects a b
    → (plane_literals (length a) (zip2 bit_or p q) (zip2 bit_or n m) ≡ product_of a b) × AreCube (length a) (zip2 bit_or p q) (zip2 bit_or n m)
product_by_planes a b p n q m e ea eb ca cb h = (
  literals_from_at (length a) (zip2 bit_or p q) (zip2 bit_or n m) (product_of a b) (length-product_of a b e) each,
  record {
    positive_size = length-zip2 bit_or p q wide ∙ ca.positive_size;
    negative_size = length-zip2 bit_or n m long ∙ ca.negative_size;
    apart = λ i. rw (joined_bit p q i wide, joined_bit n m i long) (apart_joined (plane_bit p i) (plane_bit n i) (plane_bit q i) (plane_bit m i) (ca.apart i) (cb.apart i) (both.0 i) (both.1 i));
    positive_end = λ i le. joined_bit p q i wide ∙ omega (arith, ca.positive_end i le, cb.positive_end i (omega arith));
    negative_end = λ i le. joined_bit n m i long ∙ omega (arith, ca.negative_end i le, cb.negative_end i (omega arith));
  },
)
  where
    wide : length p ≡ length q
    wide = ca.positive_size ∙ ap plane_words e ∙ sym cb.positive_size

    long : length n ≡ length m
    long = ca.negative_size ∙ ap plane_words e ∙ sym cb.negative_size

    both : AreApart p m × AreApart n q
    both = bits_of_rows a b p n q m e ea eb ca cb (test_from_intersects a b e h)

    each : (i : ℕ) → i < length a → literal_of (plane_bit (zip2 bit_or p q) i) (plane_bit (zip2 bit_or n m) i) ≡ get_or (product_of a b) i None
    each i lt =
        rw (joined_bit p q i wide, joined_bit n m i long, ← product_at a b i e lt, literal_at a p n ea i lt, literal_at b q m eb i (omega arith))
        (product_by_bits (plane_bit p i) (plane_bit n i) (plane_bit q i) (plane_bit m i) (both.1 i) (ca.apart i))

-- ---- the common literals
pub dash_of : (p n : ℕ) → p ≡ 0 → n ≡ 0 → literal_of p n ≡ None
dash_of zero zero e h = refl
dash_of zero (suc n) e h = absurd (omega arith)
dash_of (suc p) n e h = absurd (omega arith)

shared_by_bits : (p n q m : ℕ) → min p n ≡ 0 → min q m ≡ 0 → literal_of (min p q) (min n m) ≡ literal_shared (literal_of p n) (literal_of q m)
shared_by_bits zero zero q m d e = dash_of (min zero q) (min zero m) (omega arith) (omega arith)
shared_by_bits zero (suc n) zero zero d e = dash_of (min zero zero) (min (suc n) zero) (omega arith) (omega arith)
shared_by_bits zero (suc n) zero (suc m) d e = negative_of (min zero zero) (min (suc n) (suc m)) (omega arith) (omega arith)
shared_by_bits zero (suc n) (suc q) m d e = dash_of (min zero (suc q)) (min (suc n) m) (omega arith) (omega arith)
shared_by_bits (suc p) n zero zero d e = dash_of (min (suc p) zero) (min n zero) (omega arith) (omega arith)
shared_by_bits (suc p) n zero (suc m) d e = dash_of (min (suc p) zero) (min n (suc m)) (omega arith) (omega arith)
shared_by_bits (suc p) n (suc q) m d e = positive_of (min (suc p) (suc q)) (min n m) (omega arith)

-- the common literals of two rows are the common ones of their planes
pub shared_by_planes : (a b : List (Option Bool)) (p n q m : List ℕ) → length a ≡ length b → plane_literals (length a) p n ≡ a → plane_literals (length b) q m ≡ b
    → AreCube (length a) p n → AreCube (length b) q m
    → (plane_literals (length a) (zip2 bit_and p q) (zip2 bit_and n m) ≡ shared_of a b) × AreCube (length a) (zip2 bit_and p q) (zip2 bit_and n m)
shared_by_planes a b p n q m e ea eb ca cb = (
  literals_from_at (length a) (zip2 bit_and p q) (zip2 bit_and n m) (shared_of a b) (length-shared_of a b e) each,
  record {
    positive_size = length-zip2 bit_and p q (ca.positive_size ∙ ap plane_words e ∙ sym cb.positive_size) ∙ ca.positive_size;
    negative_size = length-zip2 bit_and n m (ca.negative_size ∙ ap plane_words e ∙ sym cb.negative_size) ∙ ca.negative_size;
    apart = λ i. omega (arith, common_bit p q i, common_bit n m i, ca.apart i);
    positive_end = λ i le. omega (arith, common_bit p q i, ca.positive_end i le);
    negative_end = λ i le. omega (arith, common_bit n m i, ca.negative_end i le);
  },
)
  where
    each : (i : ℕ) → i < length a → literal_of (plane_bit (zip2 bit_and p q) i) (plane_bit (zip2 bit_and n m) i) ≡ get_or (shared_of a b) i None
    each i lt =
        rw (common_bit p q i, common_bit n m i, ← shared_at a b i e lt, literal_at a p n ea i lt, literal_at b q m eb i (omega arith))
        (shared_by_bits (plane_bit p i) (plane_bit n i) (plane_bit q i) (plane_bit m i) (ca.apart i) (cb.apart i))

-- ---- the next literal
some_of : (p n : ℕ) → max p n ≡ 1 → not_dash (literal_of p n) ≡ true
some_of zero zero h = absurd (omega arith)
some_of zero (suc n) h = refl
some_of (suc p) n h = refl

dash_by_bits : (row : List (Option Bool)) (p n : List ℕ) (i : ℕ) → plane_literals (length row) p n ≡ row → i < length row → max (plane_bit p i) (plane_bit n i) ≡ 0 → get_or row i None ≡ None
dash_by_bits row p n i e lt h = literal_at row p n e i lt ∙ dash_of (plane_bit p i) (plane_bit n i) (omega arith) (omega arith)

pub all_dashes_by_bits : (row : List (Option Bool)) (p n : List ℕ) (from : ℕ) → plane_literals (length row) p n ≡ row → ((i : ℕ) → from ≤ i → max (plane_bit p i) (plane_bit n i) ≡ 0) → all_dashes (drop from row) ≡ true
all_dashes_by_bits row p n from e h = all_from row from (length row) (omega arith) (λ i a b. dash_by_bits row p n i e b (h i a))

pub found_by_bits : (row : List (Option Bool)) (p n : List ℕ) (width from : ℕ) (next : Option ℕ) → plane_literals (length row) p n ≡ row → width ≡ length row
    → IfSome next (λ i. (from ≤ i) × (i < width) × (max (plane_bit p i) (plane_bit n i) ≡ 1)) → IfSome next (λ i. (from ≤ i) × (i < length row) × (not_dash (get_or row i None) ≡ true))
found_by_bits row p n width from None e w h = h
found_by_bits row p n width from (Some i) e w h =
    let less : i < length row = omega (arith, h.1, w) in
    (h.0, less, ap not_dash (literal_at row p n e i less) ∙ some_of (plane_bit p i) (plane_bit n i) h.2)

pub before_by_bits : (row : List (Option Bool)) (p n : List ℕ) (width from : ℕ) (next : Option ℕ) → plane_literals (length row) p n ≡ row → width ≡ length row
    → IfSome next (λ i. (from ≤ i) × (i < width) × (max (plane_bit p i) (plane_bit n i) ≡ 1))
    → IfSome next (λ i. (place : ℕ) → from ≤ place → place < i → max (plane_bit p place) (plane_bit n place) ≡ 0) → IfSome next (λ i. (place : ℕ) → from ≤ place → place < i → get_or row place None ≡ None)
before_by_bits row p n width from None e w f h = h
before_by_bits row p n width from (Some i) e w f h = λ place a b. dash_by_bits row p n place e (omega (arith, b, f.1, w)) (h place a b)

-- ---- one column is given a literal
literal_by_signs : (l : Option Bool) → literal_of (cond (has_sign true l) 1 0) (cond (has_sign false l) 1 0) ≡ l
literal_by_signs None = refl
literal_by_signs (Some true) = refl
literal_by_signs (Some false) = refl

signs_apart : (l : Option Bool) → min (cond (has_sign true l) 1 0) (cond (has_sign false l) 1 0) ≡ 0
signs_apart None = refl
signs_apart (Some true) = refl
signs_apart (Some false) = refl

pub set_by_planes : (a : List (Option Bool)) (p n q m : List ℕ) (i : ℕ) (l : Option Bool) → i < length a → plane_literals (length a) p n ≡ a → AreCube (length a) p n
    → HasBitSet i (has_sign true l) p q → HasBitSet i (has_sign false l) n m
    → (plane_literals (length a) q m ≡ set a i l) × AreCube (length a) q m
set_by_planes a p n q m i l lt ea ca hp hn = (
  literals_from_at (length a) q m (set a i l) (length-set a i l) (λ j le. each j le (cases_eq j i)),
  record {
    positive_size = hp.size ∙ ca.positive_size;
    negative_size = hn.size ∙ ca.negative_size;
    apart = λ j. none j (cases_eq j i);
    positive_end = λ j le. hp.elsewhere j (λ e. absurd (omega arith)) ∙ ca.positive_end j le;
    negative_end = λ j le. hn.elsewhere j (λ e. absurd (omega arith)) ∙ ca.negative_end j le;
  },
)
  where
    each : (j : ℕ) → j < length a → (j ≡ i) ⊎ (j ≡ i → ⊥) → literal_of (plane_bit q j) (plane_bit m j) ≡ get_or (set a i l) j None
    each j le (inl e) = rw (e, hp.there, hn.there, get_or-set_same a i l None lt) (literal_by_signs l)
    each j le (inr ne) = rw (hp.elsewhere j ne, hn.elsewhere j ne, get_or-set_other a i j l None ne) (sym (literal_at a p n ea j le))

    none : (j : ℕ) → (j ≡ i) ⊎ (j ≡ i → ⊥) → min (plane_bit q j) (plane_bit m j) ≡ 0
    none j (inl e) = rw (e, hp.there, hn.there) (signs_apart l)
    none j (inr ne) = rw (hp.elsewhere j ne, hn.elsewhere j ne) (ca.apart j)

-- ---- dashes alone
zero_at : (k j : ℕ) → get_or (replicate {A = ℕ} k 0) j 0 ≡ 0
zero_at zero j = refl
zero_at (suc k) zero = refl
zero_at (suc k) (suc j) = zero_at k j

zero_bit : (k column : ℕ) → plane_bit (replicate k 0) column ≡ 0
zero_bit k column = ap (λ w. bit_at w (column % 64)) (zero_at k (column / 64)) ∙ bit_at-zero (column % 64)

dashes_at : (w i : ℕ) → i < w → get_or (replicate {A = Option Bool} w None) i None ≡ None
dashes_at w i lt = let dash : Option Bool = None in get_or-replicate w i dash dash lt

pub dashes_by_planes : (w k : ℕ) → k ≡ plane_words w → (plane_literals w (replicate k 0) (replicate k 0) ≡ replicate w None) × AreCube w (replicate k 0) (replicate k 0)
dashes_by_planes w k e = (
  literals_from_at w (replicate k 0) (replicate k 0) (replicate w None) (length-replicate w None)
      (λ i lt. rw (zero_bit k i, dashes_at w i lt) refl),
  record {
    positive_size = length-replicate k 0 ∙ e;
    negative_size = length-replicate k 0 ∙ e;
    apart = λ i. rw (zero_bit k i) refl;
    positive_end = λ i le. zero_bit k i;
    negative_end = λ i le. zero_bit k i;
  },
)

pub dashes_packed : (w : ℕ) (words : List ℕ) → words ≡ replicate (2 * plane_words w) 0 → (packed_literals w words ≡ replicate w None) × IsPacked w words
dashes_packed w words e =
    let k = plane_words w in
    let less : 2 * k - k ≡ k = omega arith in
    let front : take k words ≡ replicate k 0 = ap (take k) e ∙ take-replicate {X = ℕ} k (2 * k) 0 (omega arith) in
    let back : drop k words ≡ replicate k 0 = ap (drop k) e ∙ drop-replicate {X = ℕ} k (2 * k) 0 ∙ ap (λ j. replicate j 0) less in
    let made = dashes_by_planes w k refl in
    let halves = λ (p n : List ℕ). (plane_literals w p n ≡ replicate w None) × AreCube w p n in
    subst (λ (p : List ℕ). halves p (drop k words)) (sym front) (subst (halves (replicate k 0)) (sym back) made)

-- ---- what the fields of a row say of its literals
pub opened : (w : ℕ) (words : List ℕ) (row : List (Option Bool)) → packed_literals w words ≡ row → IsPacked w words
    → (plane_literals (length row) (take (plane_words w) words) (drop (plane_words w) words) ≡ row) × AreCube (length row) (take (plane_words w) words) (drop (plane_words w) words)
opened w words row e h =
    let wide : length row ≡ w = ap length (sym e) ∙ length-plane_literals w (take (plane_words w) words) (drop (plane_words w) words) in
    (ap (λ k. plane_literals k (take (plane_words w) words) (drop (plane_words w) words)) wide ∙ e, subst (λ (k : ℕ). AreCube k (take (plane_words w) words) (drop (plane_words w) words)) (sym wide) h)

pub packed_width : (w : ℕ) (words : List ℕ) (row : List (Option Bool)) → packed_literals w words ≡ row → w ≡ length row
packed_width w words row e = sym (length-plane_literals w (take (plane_words w) words) (drop (plane_words w) words)) ∙ ap length e

packed_length : (w : ℕ) (words : List ℕ) → IsPacked w words → length words ≡ plane_words w + plane_words w
packed_length w words h = omega (arith, h.positive_size, h.negative_size, length-take (plane_words w) words, length-drop (plane_words w) words)

-- rows of one width have equally many words
pub same_words : (w v : ℕ) (ws vs : List ℕ) (a b : List (Option Bool)) → packed_literals w ws ≡ a → packed_literals v vs ≡ b → IsPacked w ws → IsPacked v vs → length a ≡ length b → length ws ≡ length vs
same_words w v ws vs a b ea eb ha hb e =
    packed_length w ws ha ∙ ap (λ u. plane_words u + plane_words u) (packed_width w ws a ea ∙ e ∙ sym (packed_width v vs b eb)) ∙ sym (packed_length v vs hb)

product_at_width : (w : ℕ) (ws vs made : List ℕ) (a b : List (Option Bool)) → packed_literals w ws ≡ a → packed_literals w vs ≡ b → IsPacked w ws → IsPacked w vs → length a ≡ length b → Intersects a b
    → made ≡ zip2 bit_or ws vs → (packed_literals w made ≡ product_of a b) × IsPacked w made
product_at_width w ws vs made a b ea eb ha hb e h m =
    let k = plane_words w in
    let first = opened w ws a ea ha in
    let second = opened w vs b eb hb in
    let whole = product_by_planes a b (take k ws) (drop k ws) (take k vs) (drop k vs) e first.0 second.0 first.1 second.1 h in
    let front : take k made ≡ zip2 bit_or (take k ws) (take k vs) = ap (take k) m ∙ take_zip2 bit_or k ws vs in
    let back : drop k made ≡ zip2 bit_or (drop k ws) (drop k vs) = ap (drop k) m ∙ drop_zip2 bit_or k ws vs (same_words w w ws vs a b ea eb ha hb e) in
    let wide : length a ≡ w = sym (packed_width w ws a ea) in
    let halves = λ (p n : List ℕ) (u : ℕ). (plane_literals u p n ≡ product_of a b) × AreCube u p n in
    subst (λ (p : List ℕ). halves p (drop k made) w) (sym front)
    (subst (λ (n : List ℕ). halves (zip2 bit_or (take k ws) (take k vs)) n w) (sym back) (subst (halves (zip2 bit_or (take k ws) (take k vs)) (zip2 bit_or (drop k ws) (drop k vs))) wide whole))

-- the words of a product
pub product_packed : (w v : ℕ) (ws vs made : List ℕ) (a b : List (Option Bool)) → packed_literals w ws ≡ a → packed_literals v vs ≡ b → IsPacked w ws → IsPacked v vs → length a ≡ length b → Intersects a b
    → made ≡ zip2 bit_or ws vs → (packed_literals w made ≡ product_of a b) × IsPacked w made
product_packed w v ws vs made a b ea eb ha hb e h m =
    let same : v ≡ w = packed_width v vs b eb ∙ sym e ∙ sym (packed_width w ws a ea) in
    product_at_width w ws vs made a b ea (subst (λ (u : ℕ). packed_literals u vs ≡ b) same eb) ha (subst (λ (u : ℕ). IsPacked u vs) same hb) e h m

pub points_by_literals : (a b row : List (Option Bool)) → length a ≡ length b → Intersects a b → row ≡ product_of a b → IsProduct a b row
points_by_literals a b row e h m = subst (λ (x : List (Option Bool)). IsProduct a b x) (sym m) (product_points a b e h)

shared_at_width : (w : ℕ) (ws vs made : List ℕ) (a b : List (Option Bool)) → packed_literals w ws ≡ a → packed_literals w vs ≡ b → IsPacked w ws → IsPacked w vs → length a ≡ length b
    → made ≡ zip2 bit_and ws vs → (packed_literals w made ≡ shared_of a b) × IsPacked w made
shared_at_width w ws vs made a b ea eb ha hb e m =
    let k = plane_words w in
    let first = opened w ws a ea ha in
    let second = opened w vs b eb hb in
    let whole = shared_by_planes a b (take k ws) (drop k ws) (take k vs) (drop k vs) e first.0 second.0 first.1 second.1 in
    let front : take k made ≡ zip2 bit_and (take k ws) (take k vs) = ap (take k) m ∙ take_zip2 bit_and k ws vs in
    let back : drop k made ≡ zip2 bit_and (drop k ws) (drop k vs) = ap (drop k) m ∙ drop_zip2 bit_and k ws vs (same_words w w ws vs a b ea eb ha hb e) in
    let wide : length a ≡ w = sym (packed_width w ws a ea) in
    let halves = λ (p n : List ℕ) (u : ℕ). (plane_literals u p n ≡ shared_of a b) × AreCube u p n in
    subst (λ (p : List ℕ). halves p (drop k made) w) (sym front)
    (subst (λ (n : List ℕ). halves (zip2 bit_and (take k ws) (take k vs)) n w) (sym back) (subst (halves (zip2 bit_and (take k ws) (take k vs)) (zip2 bit_and (drop k ws) (drop k vs))) wide whole))

-- the words of the common literals
pub shared_packed : (w v : ℕ) (ws vs made : List ℕ) (a b : List (Option Bool)) → packed_literals w ws ≡ a → packed_literals v vs ≡ b → IsPacked w ws → IsPacked v vs → length a ≡ length b
    → made ≡ zip2 bit_and ws vs → (packed_literals w made ≡ shared_of a b) × IsPacked w made
shared_packed w v ws vs made a b ea eb ha hb e m =
    let same : v ≡ w = packed_width v vs b eb ∙ sym e ∙ sym (packed_width w ws a ea) in
    shared_at_width w ws vs made a b ea (subst (λ (u : ℕ). packed_literals u vs ≡ b) same eb) ha (subst (λ (u : ℕ). IsPacked u vs) same hb) e m

-- the words after one column was given a literal
pub set_packed : (w half i : ℕ) (ws old new : List ℕ) (row : List (Option Bool)) (l : Option Bool) → packed_literals w ws ≡ row → IsPacked w ws → i < length row → half ≡ plane_words w → old ≡ ws
    → length new ≡ length old → HasBitSet i (has_sign true l) (take half old) (take half new) → HasBitSet i (has_sign false l) (drop half old) (drop half new)
    → (packed_literals w (refill (length ws) ws new) ≡ set row i l) × IsPacked w (refill (length ws) ws new)
set_packed w half i ws old new row l e h lt eh eo en hp hn =
    let k = plane_words w in
    let both = opened w ws row e h in
    let wide : length row ≡ w = sym (packed_width w ws row e) in
    let same : refill (length ws) ws new ≡ new = refill_same (length ws) ws new refl (en ∙ ap length eo) in
    let p : HasBitSet i (has_sign true l) (take k ws) (take k new) =
    subst (λ (o : List ℕ). HasBitSet i (has_sign true l) (take k o) (take k new)) eo (subst (λ (j : ℕ). HasBitSet i (has_sign true l) (take j old) (take j new)) eh hp) in
    let n : HasBitSet i (has_sign false l) (drop k ws) (drop k new) =
    subst (λ (o : List ℕ). HasBitSet i (has_sign false l) (drop k o) (drop k new)) eo (subst (λ (j : ℕ). HasBitSet i (has_sign false l) (drop j old) (drop j new)) eh hn) in
    let made = set_by_planes row (take k ws) (drop k ws) (take k new) (drop k new) i l lt both.0 both.1 p n in
    subst (λ (x : List ℕ). (packed_literals w x ≡ set row i l) × IsPacked w x) (sym same)
    (subst (λ (u : ℕ). (plane_literals u (take k new) (drop k new) ≡ set row i l) × AreCube u (take k new) (drop k new)) wide made)

-- ---- a row filled with literals, column by column
pub record IsFilled (row literals : List (Option Bool)) (place : ℕ) : Type 0 where
  pub size : length row ≡ length literals
  pub same : (i : ℕ) → i < place → get_or row i None ≡ get_or literals i None

pub filled_first : (row literals : List (Option Bool)) → row ≡ replicate (length literals) None → IsFilled row literals 0
filled_first row literals e = record { size = ap length e ∙ length-replicate (length literals) None; same = λ i lt. absurd (omega arith) }

pub filled_more : (row literals new : List (Option Bool)) (place : ℕ) → IsFilled row literals place → place < length literals → new ≡ set row place (get_or literals place None) → IsFilled new literals (place + 1)
filled_more row literals new place h lt e = record { size = ap length e ∙ length-set row place (get_or literals place None) ∙ h.size; same = λ i le. each i le (cases_eq i place) }
  where
    each : (i : ℕ) → i < place + 1 → (i ≡ place) ⊎ (i ≡ place → ⊥) → get_or new i None ≡ get_or literals i None
    each i le (inl d) = rw (e, d) (get_or-set_same row place (get_or literals place None) None (omega (arith, h.size)))
    each i le (inr ne) = rw (e, get_or-set_other row place i (get_or literals place None) None ne) (h.same i (omega arith))

pub filled_last : (row literals : List (Option Bool)) (place : ℕ) → IsFilled row literals place → length literals ≤ place → row ≡ literals
filled_last row literals place h le = ext_get_or None row literals h.size (λ i lt. h.same i (omega (arith, h.size)))

-- Products of cubes and cubes without some literals, column by column.
use Rattle.std.proofs.Common.{◌≡◌, ℕ, ◌+◌, ◌<◌, zero, suc, Bool, true, false, Option, Some, None, List, [], ◌∷◌, ◌++◌, length, get_or, take, drop, set, replicate, refl, sym, ap, ◌∙◌, arith, inl, inr, ◌⊎◌}
use Rattle.std.proofs.lemmas.Bool.{and_from}
use Rattle.std.proofs.lemmas.List.{ext_get_or}
use Rattle.cube_cover.specs.Covers.{product_of, without_of}
use Rattle.cube_cover.specs.Literals.{literal_contains, literal_product, literal_without, row_contains}
use Rattle.alg_div.specs.Cubes.{Has, times}
use Rattle.alg_div.specs.Steps.{without, strip, support_from}
use Rattle.alg_div.specs.Quotient.{IsApart}

pub times_none : (x : Option Bool) → literal_product x None ≡ x
times_none None = refl
times_none (Some b) = refl

pub get_or-times : (c k : List (Option Bool)) (i : ℕ) → get_or (times c k) i None ≡ literal_product (get_or c i None) (get_or k i None)
unfolding times
get_or-times [] k i = refl
get_or-times (x ∷ xs) [] i = sym (times_none (get_or (x ∷ xs) i None))
get_or-times (x ∷ xs) (y ∷ ys) zero = refl
get_or-times (x ∷ xs) (y ∷ ys) (suc i) = get_or-times xs ys i

pub length-times : (c k : List (Option Bool)) → length c ≡ length k → length (times c k) ≡ length c
unfolding times
length-times [] k e = sym e
length-times (x ∷ xs) [] e = refl
length-times (x ∷ xs) (y ∷ ys) e = ap suc (length-times xs ys (omega arith))

-- the product of rows of one width, by literals
pub product_times : (c k : List (Option Bool)) → length c ≡ length k → product_of c k ≡ times c k
unfolding times product_of
product_times [] [] e = refl
product_times [] (y ∷ ys) e = absurd (omega arith)
product_times (x ∷ xs) [] e = absurd (omega arith)
product_times (None ∷ xs) (y ∷ ys) e = ap (λ (l : List (Option Bool)). y ∷ l) (product_times xs ys (omega arith))
product_times (Some b ∷ xs) (y ∷ ys) e = ap (λ (l : List (Option Bool)). Some b ∷ l) (product_times xs ys (omega arith))

without_turned : (x mask : Option Bool) → literal_without x mask ≡ without mask x
without_turned x None = refl
without_turned x (Some b) = refl

-- a row without the literals of a mask of its width
pub without_strip : (r v : List (Option Bool)) → length r ≡ length v → without_of r v ≡ strip v r
unfolding strip without_of
without_strip [] [] e = refl
without_strip [] (y ∷ ys) e = absurd (omega arith)
without_strip (x ∷ xs) [] e = absurd (omega arith)
without_strip (x ∷ xs) (y ∷ ys) e =
    ap (λ (z : Option Bool). z ∷ without_of xs ys) (without_turned x y)
    ∙ ap (λ (l : List (Option Bool)). without y x ∷ l) (without_strip xs ys (omega arith))

without_none : (x : Option Bool) → without x None ≡ None
without_none None = refl
without_none (Some b) = refl

pub get_or-strip : (v r : List (Option Bool)) (i : ℕ) → get_or (strip v r) i None ≡ without (get_or v i None) (get_or r i None)
unfolding strip
get_or-strip [] r i = refl
get_or-strip (x ∷ xs) [] i = sym (without_none (get_or (x ∷ xs) i None))
get_or-strip (x ∷ xs) (y ∷ ys) zero = refl
get_or-strip (x ∷ xs) (y ∷ ys) (suc i) = get_or-strip xs ys i

pub length-strip : (v r : List (Option Bool)) → length (strip v r) ≡ length r
unfolding strip
length-strip [] r = refl
length-strip (x ∷ xs) [] = refl
length-strip (x ∷ xs) (y ∷ ys) = ap suc (length-strip xs ys)

-- rows of one length with the same literals
pub ext : (x y : List (Option Bool)) → length x ≡ length y → ((i : ℕ) → get_or x i None ≡ get_or y i None) → x ≡ y
ext x y e h = ext_get_or None x y e (λ i lt. h i)

pub get_or-dashes : (w i : ℕ) → ◌≡◌ {A = Option Bool} (get_or (replicate w None) i None) None
get_or-dashes zero i = refl
get_or-dashes (suc w) zero = refl
get_or-dashes (suc w) (suc i) = get_or-dashes w i

-- where the mask has no literal no row has one
times_none_left : (x y : Option Bool) → literal_product x y ≡ None → x ≡ None
times_none_left None y h = refl
times_none_left (Some b) y h = cc

times_none_right : (x y : Option Bool) → literal_product x y ≡ None → y ≡ None
times_none_right None y h = h
times_none_right (Some b) y h = cc

untouched-mask : (v : List (Option Bool)) (ks : List (List (Option Bool))) (i : ℕ) → get_or (support_from v ks) i None ≡ None → get_or v i None ≡ None
unfolding support_from
untouched-mask v [] i h = h
untouched-mask v (k ∷ ks) i h = times_none_left _ (get_or k i None) (sym (get_or-times v k i) ∙ untouched-mask (times v k) ks i h)

pub untouched : (v : List (Option Bool)) (ks : List (List (Option Bool))) (i : ℕ) → get_or (support_from v ks) i None ≡ None → (k : List (Option Bool)) → Has k ks → get_or k i None ≡ None
unfolding support_from
untouched v [] i h k m = absurd m
untouched v (first ∷ ks) i h k m =
    elim m as (λ _. get_or k i None ≡ None) [
      | inl e ↦ ap (λ (r : List (Option Bool)). get_or r i None) e ∙ times_none_right (get_or v i None) _ (sym (get_or-times v first i) ∙ untouched-mask (times v first) ks i h)
      | inr n ↦ untouched (times v first) ks i h k n
    ]

-- where the mask has a literal a cube apart from the rows has none
times_some : (x y : Option Bool) (b : Bool) → literal_product x y ≡ Some b → (x ≡ Some b) ⊎ (y ≡ Some b)
times_some None y b h = inr h
times_some (Some a) y b h = inl h

pub support-apart : (c v : List (Option Bool)) (ks : List (List (Option Bool))) (i : ℕ) (b : Bool) → ((a : Bool) → get_or v i None ≡ Some a → get_or c i None ≡ None) → IsApart c ks
    → get_or (support_from v ks) i None ≡ Some b → get_or c i None ≡ None
unfolding support_from
support-apart c v [] i b h a e = h b e
support-apart c v (k ∷ ks) i b h a e =
    support-apart c (times v k) ks i b
    (λ x q. elim (times_some (get_or v i None) (get_or k i None) x (sym (get_or-times v k i) ∙ q)) as (λ _. get_or c i None ≡ None) [ inl p ↦ h x p | inr p ↦ a k (inl refl) i x p ])
    (λ row m. a row (inr m)) e

pub length-support : (v : List (Option Bool)) (ks : List (List (Option Bool))) → ((k : List (Option Bool)) → Has k ks → length v ≡ length k) → length (support_from v ks) ≡ length v
unfolding support_from
length-support v [] h = refl
length-support v (k ∷ ks) h =
    let e : length (times v k) ≡ length v = length-times v k (h k (inl refl)) in
    length-support (times v k) ks (λ r m. e ∙ h r (inr m)) ∙ e

-- a list that is overwritten, item by item, by another of its length
fill-suc : {X : Type 0} (xs ys : List X) (i : ℕ) (d : X) → i < length xs → length ys ≡ length xs → set (take i xs ++ drop i ys) i (get_or xs i d) ≡ take (suc i) xs ++ drop (suc i) ys
fill-suc [] ys i d h e = absurd (omega arith)
fill-suc (x ∷ xs) [] i d h e = absurd (omega arith)
fill-suc (x ∷ xs) (y ∷ ys) zero d h e = refl
fill-suc (x ∷ xs) (y ∷ ys) (suc i) d h e = ap (λ (l : List _). x ∷ l) (fill-suc xs ys i d (omega arith) (omega arith))

pub fill_more : {X : Type 0} (xs ys : List X) (i : ℕ) (d : X) → i < length xs → length ys ≡ length xs → set (take i xs ++ drop i ys) i (get_or xs i d) ≡ take (i + 1) xs ++ drop (i + 1) ys
fill_more xs ys i d h e = let n : suc i ≡ i + 1 = omega arith in fill-suc xs ys i d h e ∙ ap (λ (k : ℕ). take k xs ++ drop k ys) n

-- the mask with one more row
pub support-more : (v : List (Option Bool)) (rows : List (List (Option Bool))) (row : List (Option Bool)) (rest : List (List (Option Bool))) → rows ≡ row ∷ rest → support_from (times v row) rest ≡ support_from v rows
unfolding support_from
support-more v rows row rest e = ap (λ (x : List (List (Option Bool))). support_from v x) (sym e)

bit_contains : (bit : Bool) → literal_contains (Some bit) (Some bit) ≡ true
bit_contains true = refl
bit_contains false = refl

literal_of_product : (literal other : Option Bool)
    → ((bit : Bool) → other ≡ Some bit → literal ≡ None)
    → literal_contains other (literal_product literal other) ≡ true
literal_of_product literal None apart = refl
literal_of_product literal (Some bit) apart =
    ap (λ (x : Option Bool). literal_contains (Some bit) (literal_product x (Some bit)))
    (apart bit refl) ∙ bit_contains bit

-- the product of a cube and a row has all literals of the row, if the cube has none in its columns
pub product_has : (cube row : List (Option Bool))
    → ((i : ℕ) (bit : Bool) → get_or row i None ≡ Some bit → get_or cube i None ≡ None)
    → row_contains row (times cube row) ≡ true
unfolding row_contains times
product_has cube [] apart = refl
product_has [] (Some bit ∷ row) apart =
    and_from _ _ (bit_contains bit) (product_has [] row (λ i bit e. refl))
product_has [] (None ∷ row) apart = product_has [] row (λ i bit e. refl)
product_has (literal ∷ cube) (other ∷ row) apart =
    and_from _ _ (literal_of_product literal other (apart 0))
    (product_has cube row (λ i. apart (suc i)))

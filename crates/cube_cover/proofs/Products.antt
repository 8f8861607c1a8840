-- Rows that intersect, contain one another, or have a product, column by column.
use Rattle.std.proofs.Common.{◌≡◌, suc, Bool, true, false, ◌&&◌, Option, Some, None, List, [], ◌∷◌, length, refl, sym, ap, ◌∙◌, subst, arith, IsTrue, ◌↔◌}
use Rattle.std.proofs.Math.Bool.{and-false}
use Rattle.std.specs.Bool.{beq}
use Rattle.std.specs.Option.{option_eq}
use Rattle.std.proofs.lemmas.Bool.{and_from}
use Rattle.sis_base.specs.Rows.{agrees, matches}
use Rattle.cube_cover.specs.Covers.{Intersects, ContainsRow, IsProduct, product_of}
use Rattle.cube_cover.specs.Literals.{literals_intersect, rows_intersect, literal_contains, row_contains, literal_product}
use Rattle.cube_cover.proofs.Points.{and_left, and_right}

-- a bit that agrees with a literal, and one that agrees with two literals if they do not contradict
abbrev pub bit_of : Option Bool → Bool
bit_of None = false
bit_of (Some bit) = bit

agrees_bit_of : (l : Option Bool) → agrees l (bit_of l) ≡ true
agrees_bit_of None = refl
agrees_bit_of (Some true) = refl
agrees_bit_of (Some false) = refl

unfoldable pub point_of : List (Option Bool) → List Bool
point_of [] = []
point_of (l ∷ ls) = bit_of l ∷ point_of ls

pub length-point_of : (row : List (Option Bool)) → length (point_of row) ≡ length row
unfolding point_of
length-point_of [] = refl
length-point_of (l ∷ ls) = ap suc (length-point_of ls)

pub matches-point_of : (row : List (Option Bool)) → matches row (point_of row) ≡ true
unfolding matches point_of
matches-point_of [] = refl
matches-point_of (l ∷ ls) = and_from _ _ (agrees_bit_of l) (matches-point_of ls)

-- rows intersect exactly where no two literals contradict
left_bit : (l m : Option Bool) → literals_intersect l m ≡ true → agrees l (bit_of (literal_product l m)) ≡ true
left_bit None m h = refl
left_bit (Some true) m h = refl
left_bit (Some false) m h = refl

right_bit : (l m : Option Bool) → literals_intersect l m ≡ true → agrees m (bit_of (literal_product l m)) ≡ true
right_bit None m h = agrees_bit_of m
right_bit (Some x) None h = refl
right_bit (Some true) (Some true) h = refl
right_bit (Some true) (Some false) h = cc
right_bit (Some false) (Some true) h = cc
right_bit (Some false) (Some false) h = refl

product_cons : (l m : Option Bool) (ls ms : List (Option Bool)) → product_of (l ∷ ls) (m ∷ ms) ≡ literal_product l m ∷ product_of ls ms
unfolding product_of
product_cons None m ls ms = refl
product_cons (Some x) m ls ms = refl

pub length-product_of : (a b : List (Option Bool)) → length a ≡ length b → length (product_of a b) ≡ length a
unfolding product_of
length-product_of [] b e = refl
length-product_of (l ∷ ls) [] e = absurd (omega arith)
length-product_of (l ∷ ls) (m ∷ ms) e = ap length (product_cons l m ls ms) ∙ ap suc (length-product_of ls ms (omega arith))

matches-left : (a b : List (Option Bool)) → length a ≡ length b → rows_intersect a b ≡ true → matches a (point_of (product_of a b)) ≡ true
unfolding matches rows_intersect point_of product_of
matches-left [] b e h = refl
matches-left (l ∷ ls) [] e h = absurd (omega arith)
matches-left (l ∷ ls) (m ∷ ms) e h =
    subst (λ (x : List (Option Bool)). matches (l ∷ ls) (point_of x) ≡ true) (sym (product_cons l m ls ms)) (and_from _ _ (left_bit l m (and_left _ _ h)) (matches-left ls ms (omega arith) (and_right _ _ h)))

matches-right : (a b : List (Option Bool)) → length a ≡ length b → rows_intersect a b ≡ true → matches b (point_of (product_of a b)) ≡ true
unfolding matches rows_intersect point_of product_of
matches-right [] [] e h = refl
matches-right [] (m ∷ ms) e h = absurd (omega arith)
matches-right (l ∷ ls) [] e h = absurd (omega arith)
matches-right (l ∷ ls) (m ∷ ms) e h =
    subst (λ (x : List (Option Bool)). matches (m ∷ ms) (point_of x) ≡ true) (sym (product_cons l m ls ms)) (and_from _ _ (right_bit l m (and_left _ _ h)) (matches-right ls ms (omega arith) (and_right _ _ h)))

pub intersects_from_test : (a b : List (Option Bool)) → length a ≡ length b → rows_intersect a b ≡ true → Intersects a b
intersects_from_test a b e h = (point_of (product_of a b), length-point_of (product_of a b) ∙ length-product_of a b e, matches-left a b e h, matches-right a b e h)

goes_at : (l m : Option Bool) (c : Bool) → agrees l c ≡ true → agrees m c ≡ true → literals_intersect l m ≡ true
goes_at None m c h k = refl
goes_at (Some x) None c h k = refl
goes_at (Some true) (Some true) c h k = refl
goes_at (Some false) (Some false) c h k = refl
goes_at (Some true) (Some false) true h k = k
goes_at (Some true) (Some false) false h k = h
goes_at (Some false) (Some true) true h k = h
goes_at (Some false) (Some true) false h k = k

go_at_point : (a b : List (Option Bool)) (p : List Bool) → length p ≡ length a → length a ≡ length b → matches a p ≡ true → matches b p ≡ true → rows_intersect a b ≡ true
unfolding matches rows_intersect
go_at_point [] b p e d h k = refl
go_at_point (l ∷ ls) [] p e d h k = absurd (omega arith)
go_at_point (l ∷ ls) (m ∷ ms) [] e d h k = absurd (omega arith)
go_at_point (l ∷ ls) (m ∷ ms) (c ∷ cs) e d h k =
    and_from _ _ (goes_at l m c (and_left _ _ h) (and_left _ _ k)) (go_at_point ls ms cs (omega arith) (omega arith) (and_right _ _ h) (and_right _ _ k))

pub test_from_intersects : (a b : List (Option Bool)) → length a ≡ length b → Intersects a b → rows_intersect a b ≡ true
test_from_intersects a b e (p, d, h, k) = go_at_point a b p d e h k

-- the answer of a test by columns
pub intersects_answer : (a b : List (Option Bool)) → length a ≡ length b → (r : Bool) → r ≡ rows_intersect a b → IsTrue r ↔ Intersects a b
intersects_answer a b e r h = (λ t. intersects_from_test a b e (sym h ∙ t), λ m. h ∙ test_from_intersects a b e m)

-- a row contains another exactly if each column has a dash or the other's literal
contains_bits : (l m : Option Bool) → literal_contains l m ≡ true → (c : Bool) → agrees m c ≡ true → agrees l c ≡ true
contains_bits None m h c k = refl
contains_bits (Some x) None h c k = cc
contains_bits (Some true) (Some true) h c k = k
contains_bits (Some false) (Some false) h c k = k
contains_bits (Some true) (Some false) h c k = cc
contains_bits (Some false) (Some true) h c k = cc

pub contains_at_point : (a b : List (Option Bool)) (p : List Bool) → length p ≡ length a → length a ≡ length b → row_contains a b ≡ true → matches b p ≡ true → matches a p ≡ true
unfolding matches row_contains
contains_at_point [] b p e d h k = refl
contains_at_point (l ∷ ls) [] p e d h k = absurd (omega arith)
contains_at_point (l ∷ ls) (m ∷ ms) [] e d h k = absurd (omega arith)
contains_at_point (l ∷ ls) (m ∷ ms) (c ∷ cs) e d h k =
    and_from _ _ (contains_bits l m (and_left _ _ h) c (and_left _ _ k)) (contains_at_point ls ms cs (omega arith) (omega arith) (and_right _ _ h) (and_right _ _ k))

contains_from_bits : (l m : Option Bool) → ((c : Bool) → agrees m c ≡ true → agrees l c ≡ true) → literal_contains l m ≡ true
contains_from_bits None m h = refl
contains_from_bits (Some true) None h = h false refl
contains_from_bits (Some false) None h = h true refl
contains_from_bits (Some true) (Some true) h = refl
contains_from_bits (Some true) (Some false) h = h false refl
contains_from_bits (Some false) (Some true) h = h true refl
contains_from_bits (Some false) (Some false) h = refl

pub literals_from_contains : (a b : List (Option Bool)) → length a ≡ length b → ContainsRow a b → row_contains a b ≡ true
unfolding matches row_contains point_of
literals_from_contains [] b e h = refl
literals_from_contains (l ∷ ls) [] e h = absurd (omega arith)
literals_from_contains (l ∷ ls) (m ∷ ms) e h =
    and_from _ _
    (contains_from_bits l m (λ c k. and_left _ (matches ls (point_of ms)) (h (c ∷ point_of ms) (omega (arith, length-point_of ms)) (and_from _ _ k (matches-point_of ms)))))
    (literals_from_contains ls ms (omega arith) (λ p d k. and_right (agrees l (bit_of m)) _ (h (bit_of m ∷ p) (omega arith) (and_from _ _ (agrees_bit_of m) k))))

pub contains_answer : (a b : List (Option Bool)) → length a ≡ length b → (r : Bool) → r ≡ row_contains a b → IsTrue r ↔ ContainsRow a b
contains_answer a b e r h = (λ t p d k. contains_at_point a b p d e (sym h ∙ t) k, λ m. h ∙ literals_from_contains a b e m)

-- a test that is exact for points is the test by columns
pub contains_by_literals : (a b : List (Option Bool)) → length a ≡ length b → (r : Bool) → IsTrue r ↔ ContainsRow a b → r ≡ row_contains a b
contains_by_literals a b e true h = sym (literals_from_contains a b e (h.0 refl))
contains_by_literals a b e false h = cases (row_contains a b) refl
  where
    cases : (t : Bool) → row_contains a b ≡ t → false ≡ t
    cases true k = h.1 (λ p d m. contains_at_point a b p d e k m)
    cases false k = refl

-- rows with exactly the same points have the same literals
same_place : (l m : Option Bool) → literal_contains l m ≡ true → literal_contains m l ≡ true → l ≡ m
same_place None None h k = refl
same_place None (Some x) h k = cc
same_place (Some x) None h k = cc
same_place (Some true) (Some true) h k = refl
same_place (Some false) (Some false) h k = refl
same_place (Some true) (Some false) h k = cc
same_place (Some false) (Some true) h k = cc

same_literals : (a b : List (Option Bool)) → length a ≡ length b → row_contains a b ≡ true → row_contains b a ≡ true → a ≡ b
unfolding row_contains
same_literals [] [] e h k = refl
same_literals [] (m ∷ ms) e h k = absurd (omega arith)
same_literals (l ∷ ls) [] e h k = absurd (omega arith)
same_literals (l ∷ ls) (m ∷ ms) e h k =
    let p : l ≡ m = same_place l m (and_left _ _ h) (and_left _ _ k) in
    let q : ls ≡ ms = same_literals ls ms (omega arith) (and_right (literal_contains l m) (row_contains ls ms) h) (and_right (literal_contains m l) (row_contains ms ls) k) in
    cc

-- the test whether two literals are equal
pub literal_decides : (l m : Option Bool) → (option_eq beq l m ≡ true → l ≡ m) × (l ≡ m → option_eq beq l m ≡ true)
literal_decides None None = (λ _. refl, λ _. refl)
literal_decides None (Some x) = (λ h. cc, λ e. cc)
literal_decides (Some x) None = (λ h. cc, λ e. cc)
literal_decides (Some true) (Some true) = (λ _. refl, λ _. refl)
literal_decides (Some true) (Some false) = (λ h. cc, λ e. cc)
literal_decides (Some false) (Some true) = (λ h. cc, λ e. cc)
literal_decides (Some false) (Some false) = (λ _. refl, λ _. refl)

pub same_from_contains : (a b : List (Option Bool)) → length a ≡ length b → ContainsRow a b → ContainsRow b a → a ≡ b
same_from_contains a b e h k = same_literals a b e (literals_from_contains a b e h) (literals_from_contains b a (sym e) k)

-- the product, column by column, has exactly the shared points
product_bits : (l m : Option Bool) (c x y : Bool) → literals_intersect l m ≡ true → (agrees (literal_product l m) c && (x && y)) ≡ ((agrees l c && x) && (agrees m c && y))
product_bits None m c x y h = swapped (agrees m c) x y
  where
    swapped : (t x y : Bool) → (t && (x && y)) ≡ (x && (t && y))
    swapped true x y = refl
    swapped false x y = sym (and-false x)
product_bits (Some l) None c x y h = grouped (agrees (Some l) c) x y
  where
    grouped : (t x y : Bool) → (t && (x && y)) ≡ ((t && x) && y)
    grouped true x y = refl
    grouped false x y = refl
product_bits (Some l) (Some m) c x y h = subst (λ (v : Bool). (agrees (Some l) c && (x && y)) ≡ ((agrees (Some l) c && x) && (agrees (Some v) c && y))) (same l m h) (twice (agrees (Some l) c) x y)
  where
    same : (l m : Bool) → literals_intersect (Some l) (Some m) ≡ true → l ≡ m
    same true true h = refl
    same false false h = refl
    same true false h = cc
    same false true h = cc

    twice : (t x y : Bool) → (t && (x && y)) ≡ ((t && x) && (t && y))
    twice true x y = refl
    twice false x y = refl

product_at_point : (a b : List (Option Bool)) (p : List Bool) → length p ≡ length a → length a ≡ length b → rows_intersect a b ≡ true → matches (product_of a b) p ≡ (matches a p && matches b p)
unfolding matches rows_intersect product_of
product_at_point [] [] p e d h = refl
product_at_point [] (m ∷ ms) p e d h = absurd (omega arith)
product_at_point (l ∷ ls) [] p e d h = absurd (omega arith)
product_at_point (l ∷ ls) (m ∷ ms) [] e d h = absurd (omega arith)
product_at_point (l ∷ ls) (m ∷ ms) (c ∷ cs) e d h =
    subst (λ (x : List (Option Bool)). matches x (c ∷ cs) ≡ ((agrees l c && matches ls cs) && (agrees m c && matches ms cs))) (sym (product_cons l m ls ms))
    (ap (λ (x : Bool). agrees (literal_product l m) c && x) (product_at_point ls ms cs (omega arith) (omega arith) (and_right _ _ h)) ∙ product_bits l m c (matches ls cs) (matches ms cs) (and_left _ _ h))

pub product_points : (a b : List (Option Bool)) → length a ≡ length b → Intersects a b → IsProduct a b (product_of a b)
product_points a b e h p d = product_at_point a b p d e (test_from_intersects a b e h)

pub contains_same : (a b : List (Option Bool)) → a ≡ b → ContainsRow a b
contains_same a b e p d h = subst (λ (x : List (Option Bool)). matches x p ≡ true) (sym e) h

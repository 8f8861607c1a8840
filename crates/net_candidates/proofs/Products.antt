-- Rows that a division splits: each once, and how many literals they have.
use Rattle.std.proofs.Common.{◌≡◌, ◌⊎◌, ℕ, ◌+◌, ◌*◌, ◌≤◌, suc, Bool, Option, Some, None, List, [], ◌∷◌, ◌++◌, map, length, get_or, refl, sym, ap, ap₂, ◌∙◌, subst, inl, inr, arith}
use Rattle.std.specs.List.{sum_by, position_from}
use Rattle.std.proofs.lemmas.List.Sums.{sum_by-cons, sum_by-append}
use Rattle.std.proofs.Math.Nat.{suc-mul, mul-add}
use Rattle.sis_base.specs.Rows.{HasWidth}
use Rattle.cube_cover.specs.Literals.{literal_number, literal_product, row_literals}
use Rattle.alg_div.specs.Cubes.{Has, times, products_by, products, row_eq}
use Rattle.alg_div.specs.Quotient.{IsApart, Rises, IsQuotient, others}
use Rattle.alg_div.proofs.Cubes.{ext, get_or-times, length-times}
use Rattle.alg_div.proofs.Laws.{products_by-has, products-has, quotient-terms, parts-all, parts-apart}
use Rattle.alg_div.proofs.Lists.{Has-left, Has-right, Has-append, Has-map}
use Rattle.alg_div.proofs.Terms.{term-is, width-has}
use Rattle.alg_tables.specs.Dividing.{firsts}
use Rattle.alg_tables.proofs.Divisions.{AreApart, joined_rows}
use Rattle.alg_tables.proofs.Quotients.{image_has, firsts_has, has_firsts, firsts_rise}
use Rattle.net_candidates.proofs.Sums.{AreOnce, once_mapped, once_append, sum_same}

-- ---- rows that rise occur once

rises_has : (low high : ℕ) (p : List (Option Bool) → Option ℕ) (xs : List (List (Option Bool))) (x : List (Option Bool)) → Rises low high p xs → Has x xs → (place : ℕ) × (p x ≡ Some place) × (low ≤ place)
unfolding Rises
rises_has low high p [] x h m = absurd m
rises_has low high p (y ∷ ys) x (i, lt, at, rest) m =
    elim m as (λ _. (place : ℕ) × (p x ≡ Some place) × (low ≤ place)) [
      | inl e ↦ (i, ap p e ∙ at, lt)
      | inr n ↦ (let (place, here, above) = rises_has (i + 1) high p ys x rest n in (place, here, omega (arith, lt, above)))
    ]

same_number : (m n : ℕ) → ◌≡◌ {A = Option ℕ} (Some m) (Some n) → m ≡ n
same_number m n e = cc

pub rises_once : (low high : ℕ) (p : List (Option Bool) → Option ℕ) (xs : List (List (Option Bool))) → Rises low high p xs → AreOnce xs
unfolding Rises
rises_once low high p [] h = tt
rises_once low high p (x ∷ xs) (i, lt, at, rest) = (
  λ m. (let (place, here, above) = rises_has (i + 1) high p xs x rest m in let e : i ≡ place = same_number i place (sym at ∙ here) in absurd (omega (arith, above, e))),
  rises_once (i + 1) high p xs rest,
)

pub firsts_once : (rows : List (List (Option Bool))) → AreOnce (firsts rows)
firsts_once rows = rises_once 0 (length rows) (λ row. position_from (row_eq row) 0 rows) (firsts rows) (firsts_rise rows)

pub quotient_once : (width : ℕ) (f d q : List (List (Option Bool))) → IsQuotient width f d q → AreOnce q
quotient_once width f [] q h = subst AreOnce (sym h) tt
quotient_once width f (k ∷ ks) q h = rises_once 0 (length f) (λ cube. position_from (row_eq (times cube k)) 0 f) q h.order

-- ---- products occur once

product_at : (c k k' x y : Option Bool) → (c ≡ None → ⊥) ⊎ (c ≡ None) → ((bit : Bool) → k ≡ Some bit → c ≡ None) → ((bit : Bool) → k' ≡ Some bit → c ≡ None)
    → x ≡ literal_product c k → y ≡ literal_product c k' → x ≡ y → k ≡ k'
product_at None k k' x y h apart other first second e = sym first ∙ (e ∙ second)
product_at (Some bit) None None x y h apart other first second e = refl
product_at (Some bit) (Some b) k' x y h apart other first second e = let n : Some bit ≡ None = apart b refl in absurd (cc)
product_at (Some bit) None (Some b) x y h apart other first second e = let n : Some bit ≡ None = other b refl in absurd (cc)

-- two rows that are apart from a cube are the same if their products with it are
pub times_apart : (c k k' : List (Option Bool)) → AreApart c k → AreApart c k' → length k ≡ length k' → times c k ≡ times c k' → k ≡ k'
times_apart c k k' apart other long e =
    ext k k' long (λ i. at i)
  where
    known : (x : Option Bool) → (x ≡ None → ⊥) ⊎ (x ≡ None)
    known None = inr refl
    known (Some b) = inl (λ n. absurd cc)

    at : (i : ℕ) → get_or k i None ≡ get_or k' i None
    at i =
        product_at (get_or c i None) (get_or k i None) (get_or k' i None) (get_or (times c k) i None) (get_or (times c k') i None) (known (get_or c i None))
        (apart i) (other i) (get_or-times c k i) (get_or-times c k' i) (ap (λ (row : List (Option Bool)). get_or row i None) e)

module _ (width : ℕ) (f d q : List (List (Option Bool))) (is : IsQuotient width f d q) (wide : HasWidth width d) where
  -- a product determines its cubes
  pub product_tells : (c c' k k' : List (Option Bool)) → Has c q → Has c' q → Has k d → Has k' d → times c k ≡ times c' k' → (c ≡ c') × (k ≡ k')
  product_tells c c' k k' m m' n n' e =
      let term = quotient-terms width f d q is c m in
      let other = quotient-terms width f d q is c' m' in
      let long : length (times c' k') ≡ width = length-times c' k' (other.wide ∙ sym (width-has width d k' wide n')) ∙ other.wide in
      let same : c ≡ c' =
      sym (term-is width d c k (times c' k') (term.wide ∙ sym long) term.apart n e)
      ∙ term-is width d c' k' (times c' k') (other.wide ∙ sym long) other.apart n' refl in (
        same,
        times_apart c k k' (term.apart k n) (term.apart k' n') (width-has width d k wide n ∙ sym (width-has width d k' wide n'))
            (e ∙ ap (λ (x : List (Option Bool)). times x k') (sym same)),
      )

products_by_once : (c : List (Option Bool)) (ks : List (List (Option Bool))) → ((k k' : List (Option Bool)) → Has k ks → Has k' ks → times c k ≡ times c k' → k ≡ k') → AreOnce ks → AreOnce (products_by c ks)
unfolding products_by
products_by_once c [] tells h = tt
products_by_once c (k ∷ ks) tells h = (
  λ m. (let (k', among, e) = products_by-has c ks (times c k) m in h.0 (subst (λ z. Has z ks) (sym (tells k k' (inl refl) (inr among) e)) among)),
  products_by_once c ks (λ a b m n e. tells a b (inr m) (inr n) e) h.1,
)

all_products_once : (q d : List (List (Option Bool))) → ((c c' k k' : List (Option Bool)) → Has c q → Has c' q → Has k d → Has k' d → times c k ≡ times c' k' → (c ≡ c') × (k ≡ k'))
    → AreOnce q → AreOnce d → AreOnce (products q d)
unfolding products
all_products_once [] d tells a b = tt
all_products_once (c ∷ q) d tells a b =
    once_append (products_by c d) (products q d)
    (products_by_once c d (λ k k' m n e. (tells c c k k' (inl refl) (inl refl) m n e).1) b)
    (all_products_once q d (λ x y k k' m n o p e. tells x y k k' (inr m) (inr n) o p e) a.1 b)
    (λ z m n.
    let (k, here, e) = products_by-has c d z m in
    let (c', k', among, there, e') = products-has q d z n in
    a.0 (subst (λ x. Has x q) (sym (tells c c' k k' (inl refl) (inr among) here there (sym e ∙ e')).0) among))

pub products_once : (width : ℕ) (f d q : List (List (Option Bool))) → IsQuotient width f d q → HasWidth width d → AreOnce d → AreOnce (products q d)
products_once width f d q is wide once = all_products_once q d (product_tells width f d q is wide) (quotient_once width f d q is) once

-- ---- literals of products

-- how many literals rows have together
abbrev pub literals_in_all : List (List (Option Bool)) → ℕ
literals_in_all rows = sum_by row_literals rows

pub times_literals : (c k : List (Option Bool)) → AreApart c k → row_literals (times c k) ≡ row_literals c + row_literals k
unfolding times row_literals
times_literals [] k apart = let z : row_literals k ≡ 0 + row_literals k = omega arith in z
times_literals (x ∷ c) [] apart = omega arith
times_literals (None ∷ c) (y ∷ k) apart = let rest = times_literals c k (λ i b h. apart (suc i) b h) in omega (arith, rest)
times_literals (Some x ∷ c) (None ∷ k) apart = let rest = times_literals c k (λ i b h. apart (suc i) b h) in omega (arith, rest)
times_literals (Some x ∷ c) (Some y ∷ k) apart = let e : Some x ≡ None = apart 0 y refl in absurd (cc)

products_by_literals : (c : List (Option Bool)) (d : List (List (Option Bool))) → IsApart c d → literals_in_all (products_by c d) ≡ length d * row_literals c + literals_in_all d
unfolding products_by
products_by_literals c [] apart = let z : 0 ≡ 0 * row_literals c + 0 = omega arith in z
products_by_literals c (k ∷ d) apart =
    let rest : literals_in_all (products_by c d) ≡ length d * row_literals c + literals_in_all d = products_by_literals c d (λ row m. apart row (inr m)) in
    let first : row_literals (times c k) ≡ row_literals c + row_literals k = times_literals c k (apart k (inl refl)) in
    omega (arith, rest, first, sum_by-cons row_literals (times c k) (products_by c d), sum_by-cons row_literals k d, suc-mul (length d) (row_literals c))

pub products_literals : (q d : List (List (Option Bool))) → ((c : List (Option Bool)) → Has c q → IsApart c d)
    → literals_in_all (products q d) ≡ length d * literals_in_all q + length q * literals_in_all d
unfolding products
products_literals [] d apart = omega arith
products_literals (c ∷ q) d apart =
    let rest : literals_in_all (products q d) ≡ length d * literals_in_all q + length q * literals_in_all d = products_literals q d (λ x m. apart x (inr m)) in
    let first : literals_in_all (products_by c d) ≡ length d * row_literals c + literals_in_all d = products_by_literals c d (apart c (inl refl)) in
    let whole : length d * literals_in_all (c ∷ q) ≡ length d * row_literals c + length d * literals_in_all q =
    ap (λ (n : ℕ). length d * n) (sum_by-cons row_literals c q) ∙ mul-add (length d) (row_literals c) (literals_in_all q) in
    omega (arith, rest, first, whole, sum_by-append row_literals (products_by c d) (products q d), suc-mul (length q) (literals_in_all d))

-- ---- how a division splits rows

-- the rows, each once, are the products and the rows that are left, each once
pub parts_literals : (width : ℕ) (f d q : List (List (Option Bool))) → IsQuotient width f d q → HasWidth width d → AreOnce d
    → literals_in_all (firsts f) ≡ literals_in_all (products q d) + literals_in_all (firsts (others f (products q d)))
parts_literals width f d q is wide once =
    let left : List (List (Option Bool)) = others f (products q d) in
    sum_same row_literals (firsts f) (products q d ++ firsts left) (firsts_once f)
    (once_append (products q d) (firsts left) (products_once width f d q is wide once) (firsts_once left) (λ z m n. parts-apart f d q left refl z m (firsts_has left z n)))
    (λ z m. elim ((parts-all width f d q left is refl z).0 (firsts_has f z m)) as (λ _. Has z (products q d ++ firsts left)) [
      | inl a ↦ Has-left z (products q d) (firsts left) a
      | inr b ↦ Has-right z (products q d) (firsts left) (has_firsts left z b)
    ])
    (λ z m. has_firsts f z ((parts-all width f d q left is refl z).1
    (elim (Has-append z (products q d) (firsts left) m) as (λ _. Has z (products q d) ⊎ Has z left) [ inl a ↦ inl a | inr b ↦ inr (firsts_has left z b) ])))
    ∙ sum_by-append row_literals (products q d) (firsts left)

-- ---- rows with one more column

ended_same : (xs ys : List (Option Bool)) (a b : Option Bool) → xs ++ a ∷ [] ≡ ys ++ b ∷ [] → (xs ≡ ys) × (a ≡ b)
ended_same [] [] a b e = (refl, cc)
ended_same [] (y ∷ []) a b e = absurd cc
ended_same [] (y ∷ z ∷ ys) a b e = absurd cc
ended_same (x ∷ []) [] a b e = absurd cc
ended_same (x ∷ z ∷ xs) [] a b e = absurd cc
ended_same (x ∷ xs) (y ∷ ys) a b e =
    let rest : xs ++ a ∷ [] ≡ ys ++ b ∷ [] = cc in
    let first : x ≡ y = cc in
    let same = ended_same xs ys a b rest in
    (ap₂ (λ z zs. z ∷ zs) first same.0, same.1)

ended_literals : (row : List (Option Bool)) (place : Option Bool) → row_literals (row ++ place ∷ []) ≡ row_literals row + literal_number place
unfolding row_literals
ended_literals [] place = omega arith
ended_literals (x ∷ row) place = let rest = ended_literals row place in omega (arith, rest)

all_ended_literals : (rows : List (List (Option Bool))) (place : Option Bool) → literals_in_all (map (λ row. row ++ place ∷ []) rows) ≡ literals_in_all rows + length rows * literal_number place
all_ended_literals [] place = let z : 0 ≡ 0 + 0 * literal_number place = omega arith in z
all_ended_literals (row ∷ rows) place =
    let rest : literals_in_all (map (λ x. x ++ place ∷ []) rows) ≡ literals_in_all rows + length rows * literal_number place = all_ended_literals rows place in
    omega (arith, rest, ended_literals row place, sum_by-cons row_literals (row ++ place ∷ []) (map (λ x. x ++ place ∷ []) rows), sum_by-cons row_literals row rows, suc-mul (length rows) (literal_number place))

ended_once : (rows : List (List (Option Bool))) (place : Option Bool) → AreOnce rows → AreOnce (map (λ row. row ++ place ∷ []) rows)
ended_once rows place once = once_mapped (λ row. row ++ place ∷ []) rows (λ x y m n e. (ended_same x y place place e).0) once

-- the literals of the rejoined rows, each once
pub joined_literals : (width : ℕ) (bit : Bool) (f d q : List (List (Option Bool))) → IsQuotient width f d q
    → literals_in_all (firsts (joined_rows bit f d q)) ≡ literals_in_all q + length q + literals_in_all (firsts (others f (products q d)))
joined_literals width bit f d q is =
    let left : List (List (Option Bool)) = others f (products q d) in
    let front : List (List (Option Bool)) = map (λ row. row ++ Some bit ∷ []) q in
    let back : List (List (Option Bool)) = map (λ row. row ++ None ∷ []) (firsts left) in
    let whole : literals_in_all (firsts (joined_rows bit f d q)) ≡ literals_in_all (front ++ back) =
    sum_same row_literals (firsts (joined_rows bit f d q)) (front ++ back) (firsts_once (joined_rows bit f d q))
    (once_append front back (ended_once q (Some bit) (quotient_once width f d q is)) (ended_once (firsts left) None (firsts_once left))
    (λ z m n.
    let (x, here, e) = image_has (λ row. row ++ Some bit ∷ []) q z m in
    let (y, there, e') = image_has (λ row. row ++ None ∷ []) (firsts left) z n in
    let clash : Some bit ≡ None = (ended_same x y (Some bit) None (sym e ∙ e')).1 in absurd (cc)))
    (λ z m. elim (Has-append z front (map (λ row. row ++ None ∷ []) left) (firsts_has (joined_rows bit f d q) z m)) as (λ _. Has z (front ++ back)) [
      | inl a ↦ Has-left z front back a
      | inr b ↦ (let (y, there, e) = image_has (λ row. row ++ None ∷ []) left z b in
          Has-right z front back (subst (λ x. Has x back) (sym e) (Has-map (λ row. row ++ None ∷ []) y (firsts left) (has_firsts left y there))))
    ])
    (λ z m. has_firsts (joined_rows bit f d q) z
    (elim (Has-append z front back m) as (λ _. Has z (joined_rows bit f d q)) [
      | inl a ↦ Has-left z front (map (λ row. row ++ None ∷ []) left) a
      | inr b ↦ (let (y, there, e) = image_has (λ row. row ++ None ∷ []) (firsts left) z b in
          Has-right z front (map (λ row. row ++ None ∷ []) left) (subst (λ x. Has x (map (λ row. row ++ None ∷ []) left)) (sym e) (Has-map (λ row. row ++ None ∷ []) y left (firsts_has left y there))))
    ])) in
    let first : literals_in_all front ≡ literals_in_all q + length q * 1 = all_ended_literals q (Some bit) in
    let second : literals_in_all back ≡ literals_in_all (firsts left) + length (firsts left) * 0 = all_ended_literals (firsts left) None in
    omega (arith, whole, first, second, sum_by-append row_literals front back)

-- literals before and after, if no row occurs twice in the divisor: what is lost are the literals
-- of the products, and what is gained are those of the quotient and one for each of its cubes
pub gain_closed : (width : ℕ) (bit : Bool) (f d q : List (List (Option Bool))) → IsQuotient width f d q → HasWidth width d → AreOnce d
    → literals_in_all (firsts (joined_rows bit f d q)) + (length d * literals_in_all q + length q * literals_in_all d) ≡ literals_in_all (firsts f) + (literals_in_all q + length q)
gain_closed width bit f d q is wide once =
    let made : literals_in_all (firsts (joined_rows bit f d q)) ≡ literals_in_all q + length q + literals_in_all (firsts (others f (products q d))) = joined_literals width bit f d q is in
    let parts : literals_in_all (firsts f) ≡ literals_in_all (products q d) + literals_in_all (firsts (others f (products q d))) = parts_literals width f d q is wide once in
    let of_products : literals_in_all (products q d) ≡ length d * literals_in_all q + length q * literals_in_all d = products_literals q d (λ c m. (quotient-terms width f d q is c m).apart) in
    omega (arith, made, parts, of_products)

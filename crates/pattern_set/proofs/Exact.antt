-- The lists of patterns are exact: a tree is listed for a formula just where it is one of its patterns.
use Rattle.std.proofs.Common.{◌≡◌, ℕ, zero, suc, ◌+◌, ◌<◌, ◌≤◌, Bool, false, List, [], ◌∷◌, ◌++◌, length, map, get_or, refl, sym, ap, ◌∙◌, subst, inl, inr, ◌⊎◌, ◌↔◌, arith, append_assoc, length-append}
use Rattle.std.specs.List.{AllByRecursion, flat_map, range_with_len}
use Rattle.std.proofs.lemmas.List.{map-append, length-map}
use Rattle.subject_tree.specs.Trees.{Tree, Leaf, complement_of, product_of, sum_of}
use Rattle.genlib_expr.specs.Formula.{Formula, constant, pin, complement, product, sum}
use Rattle.pattern_set.specs.declared.kind.Kind.{Kind}
use Rattle.pattern_set.specs.declared.kind.Kind.TheVariants.{Product, Sum}
use Rattle.pattern_set.specs.declared.parting.Parting.{Parting}
use Rattle.pattern_set.specs.Patterns.{factors, terms, IsParting, none_left, to_first, to_second, IsPattern, of_pin, of_complement, of_product, of_sum, IsJoined, of_one, of_parts}
use Rattle.pattern_set.specs.Lists.{join_by, with_first, with_second, partings, crossed, joined, settled, operands_as, gathered_of, patterns_of}

-- a thing is in a list
abbrev pub In : {A : Type 0} → A → List A → Type 0
In x [] = ⊥
In x (y ∷ ys) = (y ≡ x) ⊎ In x ys

pub in_left : {A : Type 0} (x : A) (xs ys : List A) → In x xs → In x (xs ++ ys)
in_left x [] ys h = elim h [ ]
in_left x (z ∷ xs) ys (inl e) = inl e
in_left x (z ∷ xs) ys (inr h) = inr (in_left x xs ys h)

pub in_right : {A : Type 0} (x : A) (xs ys : List A) → In x ys → In x (xs ++ ys)
in_right x [] ys h = h
in_right x (z ∷ xs) ys h = inr (in_right x xs ys h)

pub in_either : {A : Type 0} (x : A) (xs ys : List A) → In x (xs ++ ys) → In x xs ⊎ In x ys
in_either x [] ys h = inr h
in_either x (z ∷ xs) ys (inl e) = inl (inl e)
in_either x (z ∷ xs) ys (inr h) = elim (in_either x xs ys h) as (λ _. In x (z ∷ xs) ⊎ In x ys) [ inl a ↦ inl (inr a) | inr b ↦ inr b ]

pub in_map : {A B : Type 0} (f : A → B) (x : A) (xs : List A) → In x xs → In (f x) (map f xs)
in_map f x [] h = elim h [ ]
in_map f x (z ∷ xs) (inl e) = inl (ap f e)
in_map f x (z ∷ xs) (inr h) = inr (in_map f x xs h)

pub from_map : {A B : Type 0} (f : A → B) (y : B) (xs : List A) → In y (map f xs) → (x : A) × In x xs × (f x ≡ y)
from_map f y [] h = elim h [ ]
from_map f y (z ∷ xs) (inl e) = (z, inl refl, e)
from_map f y (z ∷ xs) (inr h) = let (x, at, e) = from_map f y xs h in (x, inr at, e)

pub in_flat : {A B : Type 0} (f : A → List B) (y : B) (x : A) (xs : List A) → In x xs → In y (f x) → In y (flat_map f xs)
in_flat f y x [] h k = elim h [ ]
in_flat {A} {B} f y x (z ∷ xs) (inl e) h = in_left y (f z) (flat_map f xs) (subst (λ (w : A). In y (f w)) (sym e) h)
in_flat f y x (z ∷ xs) (inr at) h = in_right y (f z) (flat_map f xs) (in_flat f y x xs at h)

pub from_flat : {A B : Type 0} (f : A → List B) (y : B) (xs : List A) → In y (flat_map f xs) → (x : A) × In x xs × In y (f x)
from_flat f y [] h = elim h [ ]
from_flat {A} {B} f y (z ∷ xs) h = elim (in_either y (f z) (flat_map f xs) h) as (λ _. (x : A) × In x (z ∷ xs) × In y (f x)) [
  | inl a ↦ (z, inl refl, a)
  | inr b ↦ let (x, at, k) = from_flat f y xs b in (x, inr at, k)
]

-- the ways to part places are the partings of what stands there
pub record Parts {A : Type 0} (at : ℕ → A) (bound : ℕ) (places : List ℕ) (parting : Parting) : Type 0 where
  pub parted : IsParting (map at places) (map at parting.first) (map at parting.second)
  pub lengths : length parting.first + length parting.second ≡ length places
  pub first : AllByRecursion (λ (n : ℕ). n < bound) parting.first
  pub second : AllByRecursion (λ (n : ℕ). n < bound) parting.second

pub parts_of : {A : Type 0} (at : ℕ → A) (bound : ℕ) (places : List ℕ) (p : Parting) → AllByRecursion (λ (n : ℕ). n < bound) places → In p (partings places) → Parts at bound places p
unfolding partings
parts_of at bound [] p below (inl e) = subst (λ (q : Parting). Parts at bound [] q) e (record { parted = none_left; lengths = refl; first = tt; second = tt })
parts_of at bound [] p below (inr h) = absurd h
parts_of at bound (place ∷ places) p below h = elim (in_either p (map (with_first place) (partings places)) (map (with_second place) (partings places)) h) as (λ _. Parts at bound (place ∷ places) p) [
  | inl a ↦
      let (q, inside, e) = from_map (with_first place) p (partings places) a in
      let r : Parts at bound places q = parts_of at bound places q below.1 inside in
      subst (λ (s : Parting). Parts at bound (place ∷ places) s) e (record { parted = to_first r.parted; lengths = omega (arith, r.lengths); first = (below.0, r.first); second = r.second })
  | inr b ↦
      let (q, inside, e) = from_map (with_second place) p (partings places) b in
      let r : Parts at bound places q = parts_of at bound places q below.1 inside in
      subst (λ (s : Parting). Parts at bound (place ∷ places) s) e (record { parted = to_second r.parted; lengths = omega (arith, r.lengths); first = r.first; second = (below.0, r.second) })
]

-- a parting of what stands at places, as one of places
abbrev pub Found : {A : Type 0} → (ℕ → A) → List ℕ → List A → List A → Type 0
Found {A} at places xs ys = (p : Parting) × In p (partings places) × (map at p.first ≡ xs) × (map at p.second ≡ ys)

pub found_parts : {A : Type 0} (at : ℕ → A) (places : List ℕ) (xs ys : List A) → IsParting (map at places) xs ys → Found at places xs ys
unfolding partings
found_parts at [] xs ys none_left = (record { first = []; second = [] }, inl refl, refl, refl)
found_parts {A} at (place ∷ places) xs ys (to_first {xs = us} h) =
    let (p, inside, e, f) = found_parts at places us ys h in
    (with_first place p, in_left (with_first place p) (map (with_first place) (partings places)) (map (with_second place) (partings places)) (in_map (with_first place) p (partings places) inside), ap (λ (zs : List A). at place ∷ zs) e, f)
found_parts {A} at (place ∷ places) xs ys (to_second {ys = us} h) =
    let (p, inside, e, f) = found_parts at places xs us h in
    (with_second place p, in_right (with_second place p) (map (with_first place) (partings places)) (map (with_second place) (partings places)) (in_map (with_second place) p (partings places) inside), e, ap (λ (zs : List A). at place ∷ zs) f)

in_crossed : (join : Tree ℕ → Tree ℕ → Tree ℕ) (t u : Tree ℕ) (ts us : List (Tree ℕ)) → In t ts → In u us → In (join t u) (crossed join ts us)
unfolding crossed
in_crossed join t u [] us h k = elim h [ ]
in_crossed join t u (s ∷ ts) us (inl e) h =
    in_left (join t u) (map (join s) us) (crossed join ts us) (subst (λ (w : Tree ℕ). In (join t u) (map (join w) us)) (sym e) (in_map (join t) u us h))
in_crossed join t u (s ∷ ts) us (inr at) h = in_right (join t u) (map (join s) us) (crossed join ts us) (in_crossed join t u ts us at h)

-- a tree that joins one of each of two lists
abbrev JoinsOne : (Tree ℕ → Tree ℕ → Tree ℕ) → List (Tree ℕ) → List (Tree ℕ) → Tree ℕ → Type 0
JoinsOne join ts us v = (t : Tree ℕ) × (u : Tree ℕ) × In t ts × In u us × (join t u ≡ v)

from_crossed : (join : Tree ℕ → Tree ℕ → Tree ℕ) (v : Tree ℕ) (ts us : List (Tree ℕ)) → In v (crossed join ts us) → JoinsOne join ts us v
unfolding crossed
from_crossed join v [] us h = elim h [ ]
from_crossed join v (s ∷ ts) us h = elim (in_either v (map (join s) us) (crossed join ts us) h) as (λ _. JoinsOne join (s ∷ ts) us v) [
  | inl a ↦ let (u, at, e) = from_map (join s) v us a in (s, u, inl refl, at, e)
  | inr b ↦ let (t, u, at, au, e) = from_crossed join v ts us b in (t, u, inr at, au, e)
]

-- a formula's list is exact
abbrev pub IsExact : Formula → Type 0
IsExact e = (t : Tree ℕ) → In t (patterns_of e) ↔ IsPattern e t

all_append : {A : Type 0} (P : A → Type 0) (xs ys : List A) → AllByRecursion P xs → AllByRecursion P ys → AllByRecursion P (xs ++ ys)
all_append P [] ys p q = q
all_append P (x ∷ xs) ys p q = (p.0, all_append P xs ys p.1 q)

set_of : (es : List Formula) (n : ℕ) → n < length es → get_or (map patterns_of es) n [] ≡ patterns_of (get_or es n (constant false))
set_of [] n lt = absurd (omega (arith, lt))
set_of (e ∷ es) zero lt = refl
set_of (e ∷ es) (suc n) lt = set_of es n (omega (arith, lt))

exact_at : (es : List Formula) (n : ℕ) → AllByRecursion IsExact es → n < length es → IsExact (get_or es n (constant false))
exact_at [] n all lt = absurd (omega (arith, lt))
exact_at (e ∷ es) zero all lt = all.0
exact_at (e ∷ es) (suc n) all lt = exact_at es n all.1 (omega (arith, lt))

module _ (join : Tree ℕ → Tree ℕ → Tree ℕ) (es : List Formula) (all : AllByRecursion IsExact es) where
  abbrev Below : List ℕ → Type 0
  Below places = AllByRecursion (λ (n : ℕ). n < length es) places

  abbrev at : ℕ → Formula
  at n = get_or es n (constant false)

  abbrev sets : List (List (Tree ℕ))
  sets = map patterns_of es

  joined_sound : (depth : ℕ) (places : List ℕ) (t : Tree ℕ) → Below places → In t (joined join sets depth places) → IsJoined join (map at places) t
  unfolding joined
  joined_sound zero places t below h = absurd h
  joined_sound (suc depth) [] t below h = absurd h
  joined_sound (suc depth) (place ∷ []) t below h =
      of_one ((exact_at es place all below.0 t).0 (subst (λ (ts : List (Tree ℕ)). In t ts) (set_of es place below.0) h))
  joined_sound (suc depth) (place ∷ next ∷ places) t below h =
      let (p, inside, k) = from_flat (λ (parting : Parting). crossed join (joined join sets depth (place ∷ parting.first)) (joined join sets depth parting.second)) t (partings (next ∷ places)) h in
      let (u, v, au, av, e) = from_crossed join t (joined join sets depth (place ∷ p.first)) (joined join sets depth p.second) k in
      let r : Parts at (length es) (next ∷ places) p = parts_of at (length es) (next ∷ places) p below.1 inside in
      subst (IsJoined join (map at (place ∷ next ∷ places))) e
      (with_second_part p.second u v r.parted (joined_sound depth (place ∷ p.first) u (below.0, r.first) au) (joined_sound depth p.second v r.second av))
    where
      with_second_part : {zs xs : List Formula} {e : Formula} (ys : List ℕ) (u v : Tree ℕ) → IsParting zs xs (map at ys) → IsJoined join (e ∷ xs) u → IsJoined join (map at ys) v → IsJoined join (e ∷ zs) (join u v)
      with_second_part [] u v parted left right = elim right [ ]
      with_second_part (y ∷ ys) u v parted left right = of_parts parted left right

  joined_complete : (depth : ℕ) (places : List ℕ) (t : Tree ℕ) → length places ≤ depth → Below places → IsJoined join (map at places) t → In t (joined join sets depth places)
  unfolding joined
  joined_complete zero [] t fits below h = elim h [ ]
  joined_complete zero (place ∷ places) t fits below h = absurd (omega (arith, fits))
  joined_complete (suc depth) [] t fits below h = elim h [ ]
  joined_complete (suc depth) (place ∷ []) t fits below (of_parts parted left right) = elim parted [ ]
  joined_complete (suc depth) (place ∷ []) t fits below (of_one h) =
      subst (λ (ts : List (Tree ℕ)). In t ts) (sym (set_of es place below.0)) ((exact_at es place all below.0 t).1 h)
  joined_complete (suc depth) (place ∷ next ∷ places) t fits below (of_parts {y = y} {xs = xs} {ys = ys} {t = u} {u = v} parted left right) =
      let (p, inside, e, f) = found_parts at (next ∷ places) xs (y ∷ ys) parted in
      let r : Parts at (length es) (next ∷ places) p = parts_of at (length es) (next ∷ places) p below.1 inside in
      let some : length p.second ≡ suc (length ys) = sym (length-map p.second at) ∙ ap length f in
      in_flat (λ (parting : Parting). crossed join (joined join sets depth (place ∷ parting.first)) (joined join sets depth parting.second)) t p (partings (next ∷ places)) inside
      (in_crossed join u v (joined join sets depth (place ∷ p.first)) (joined join sets depth p.second)
      (joined_complete depth (place ∷ p.first) u (omega (arith, fits, some, r.lengths)) (below.0, r.first) (subst (λ (zs : List Formula). IsJoined join (at place ∷ zs) u) (sym e) left))
      (joined_complete depth p.second v (omega (arith, fits, some, r.lengths)) r.second (subst (λ (zs : List Formula). IsJoined join zs v) (sym f) right)))

-- the numbers below a length are all places of a list
ranged : {A : Type 0} (front xs : List A) (d : A) (k : ℕ) → k ≡ length front → map (λ (n : ℕ). get_or (front ++ xs) n d) (range_with_len k (length xs)) ≡ xs
ranged front [] d k e = refl
ranged {A} front (x ∷ xs) d k e =
    ap (λ (y : A). y ∷ map (λ (n : ℕ). get_or (front ++ x ∷ xs) n d) (range_with_len (k + 1) (length xs))) (seam front x xs d k e)
    ∙ ap (λ (ys : List A). x ∷ ys)
    (ap (λ (zs : List A). map (λ (n : ℕ). get_or zs n d) (range_with_len (k + 1) (length xs))) (sym (append_assoc front (x ∷ []) xs))
    ∙ ranged (front ++ x ∷ []) xs d (k + 1) (omega (arith, e, length-append front (x ∷ []))))
  where
    seam : {A : Type 0} (front : List A) (x : A) (xs : List A) (d : A) (k : ℕ) → k ≡ length front → get_or (front ++ x ∷ xs) k d ≡ x
    seam [] x xs d k e = ap (λ (n : ℕ). get_or (x ∷ xs) n d) e
    seam (z ∷ front) x xs d zero e = absurd (omega (arith, e))
    seam (z ∷ front) x xs d (suc k) e = seam front x xs d k (omega (arith, e))

below_len : (k n bound : ℕ) → k + n ≤ bound → AllByRecursion (λ (m : ℕ). m < bound) (range_with_len k n)
below_len k zero bound le = tt
below_len k (suc n) bound le = (omega (arith, le), below_len (k + 1) n bound (omega (arith, le)))

length_range : (k n : ℕ) → length (range_with_len k n) ≡ n
length_range k zero = refl
length_range k (suc n) = ap suc (length_range (k + 1) n)

-- the joined trees of all of some formulas
pub joined_exact : (join : Tree ℕ → Tree ℕ → Tree ℕ) (es : List Formula) → AllByRecursion IsExact es → (t : Tree ℕ)
    → In t (joined join (map patterns_of es) (length es) (range_with_len 0 (length es))) ↔ IsJoined join es t
joined_exact join es all t =
    let whole : map (λ (n : ℕ). get_or es n (constant false)) (range_with_len 0 (length es)) ≡ es = ranged [] es (constant false) 0 refl in
    let below : AllByRecursion (λ (n : ℕ). n < length es) (range_with_len 0 (length es)) = below_len 0 (length es) (length es) (omega arith) in (
      λ h. subst (λ (zs : List Formula). IsJoined join zs t) whole (joined_sound join es all (length es) (range_with_len 0 (length es)) t below h),
      λ h. joined_complete join es all (length es) (range_with_len 0 (length es)) t (omega (arith, length_range 0 (length es))) below (subst (λ (zs : List Formula). IsJoined join zs t) (sym whole) h),
    )

-- the operands that are gathered of a formula are those of its factors, or of its terms
factor_sets : (e : Formula) → operands_as Product (gathered_of e) ≡ map patterns_of (factors e)
unfolding operands_as gathered_of factors settled joined
factor_sets (constant bit) = refl
factor_sets (pin place) = refl
factor_sets (complement e) = refl
factor_sets (product d e) =
    ap (λ (ts : List (List (Tree ℕ))). ts ++ operands_as Product (gathered_of e)) (factor_sets d)
    ∙ (ap (λ (ts : List (List (Tree ℕ))). map patterns_of (factors d) ++ ts) (factor_sets e) ∙ sym (map-append patterns_of (factors d) (factors e)))
factor_sets (sum d e) = refl

term_sets : (e : Formula) → operands_as Sum (gathered_of e) ≡ map patterns_of (terms e)
unfolding operands_as gathered_of terms settled joined
term_sets (constant bit) = refl
term_sets (pin place) = refl
term_sets (complement e) = refl
term_sets (product d e) = refl
term_sets (sum d e) =
    ap (λ (ts : List (List (Tree ℕ))). ts ++ operands_as Sum (gathered_of e)) (term_sets d)
    ∙ (ap (λ (ts : List (List (Tree ℕ))). map patterns_of (terms d) ++ ts) (term_sets e) ∙ sym (map-append patterns_of (terms d) (terms e)))

settled_of : (kind : Kind) (ss : List (List (Tree ℕ))) (es : List Formula) → ss ≡ map patterns_of es
    → settled (record { kind = kind; sets = ss }) ≡ joined (join_by kind) (map patterns_of es) (length es) (range_with_len 0 (length es))
unfolding settled
settled_of kind ss es e =
    ap (λ (zs : List (List (Tree ℕ))). joined (join_by kind) zs (length zs) (range_with_len 0 (length zs))) e
    ∙ ap (λ (n : ℕ). joined (join_by kind) (map patterns_of es) n (range_with_len 0 n)) (length-map es patterns_of)

product_list : (d e : Formula) → patterns_of (product d e) ≡ joined product_of (map patterns_of (factors d ++ factors e)) (length (factors d ++ factors e)) (range_with_len 0 (length (factors d ++ factors e)))
unfolding gathered_of
product_list d e =
    settled_of Product (operands_as Product (gathered_of d) ++ operands_as Product (gathered_of e)) (factors d ++ factors e)
    (ap (λ (ts : List (List (Tree ℕ))). ts ++ operands_as Product (gathered_of e)) (factor_sets d)
    ∙ (ap (λ (ts : List (List (Tree ℕ))). map patterns_of (factors d) ++ ts) (factor_sets e) ∙ sym (map-append patterns_of (factors d) (factors e))))

sum_list : (d e : Formula) → patterns_of (sum d e) ≡ joined sum_of (map patterns_of (terms d ++ terms e)) (length (terms d ++ terms e)) (range_with_len 0 (length (terms d ++ terms e)))
unfolding gathered_of
sum_list d e =
    settled_of Sum (operands_as Sum (gathered_of d) ++ operands_as Sum (gathered_of e)) (terms d ++ terms e)
    (ap (λ (ts : List (List (Tree ℕ))). ts ++ operands_as Sum (gathered_of e)) (term_sets d)
    ∙ (ap (λ (ts : List (List (Tree ℕ))). map patterns_of (terms d) ++ ts) (term_sets e) ∙ sym (map-append patterns_of (terms d) (terms e))))

-- a formula's list is exact, and so are those of its factors and of its terms
record AllExact (e : Formula) : Type 0 where
  itself : IsExact e
  of_factors : AllByRecursion IsExact (factors e)
  of_terms : AllByRecursion IsExact (terms e)

pin_exact : (place : ℕ) → IsExact (pin place)
unfolding gathered_of settled joined
pin_exact place t = (λ h. elim h as (λ _. IsPattern (pin place) t) [ inl e ↦ subst (IsPattern (pin place)) e (of_pin place) | inr f ↦ absurd f ], back t)
  where
    back : (t : Tree ℕ) → IsPattern (pin place) t → In t (Leaf place ∷ [])
    back t (of_pin p) = inl refl

no_constant : (bit : Bool) (t : Tree ℕ) → IsPattern (constant bit) t → ⊥
no_constant bit t h = elim h [ ]

constant_exact : (bit : Bool) → IsExact (constant bit)
unfolding gathered_of settled joined
constant_exact bit t = (λ h. absurd h, λ h. absurd (no_constant bit t h))

complement_exact : (e : Formula) → IsExact e → IsExact (complement e)
unfolding gathered_of settled joined
complement_exact e exact t = (λ h. let (u, at, same) = from_map complement_of t (patterns_of e) h in subst (IsPattern (complement e)) same (of_complement ((exact u).0 at)), back t)
  where
    back : (t : Tree ℕ) → IsPattern (complement e) t → In t (map complement_of (patterns_of e))
    back t (of_complement {t = u} p) = in_map complement_of u (patterns_of e) ((exact u).1 p)

product_exact : (d e : Formula) → AllByRecursion IsExact (factors d ++ factors e) → IsExact (product d e)
product_exact d e all t = (λ h. of_product ((joined_exact product_of (factors d ++ factors e) all t).0 (subst (λ (ts : List (Tree ℕ)). In t ts) (product_list d e) h)), back t)
  where
    back : (t : Tree ℕ) → IsPattern (product d e) t → In t (patterns_of (product d e))
    back t (of_product j) = subst (λ (ts : List (Tree ℕ)). In t ts) (sym (product_list d e)) ((joined_exact product_of (factors d ++ factors e) all t).1 j)

sum_exact : (d e : Formula) → AllByRecursion IsExact (terms d ++ terms e) → IsExact (sum d e)
sum_exact d e all t = (λ h. of_sum ((joined_exact sum_of (terms d ++ terms e) all t).0 (subst (λ (ts : List (Tree ℕ)). In t ts) (sum_list d e) h)), back t)
  where
    back : (t : Tree ℕ) → IsPattern (sum d e) t → In t (patterns_of (sum d e))
    back t (of_sum j) = subst (λ (ts : List (Tree ℕ)). In t ts) (sym (sum_list d e)) ((joined_exact sum_of (terms d ++ terms e) all t).1 j)

all_exact : (e : Formula) → AllExact e
unfolding factors terms
all_exact (constant bit) = record { itself = constant_exact bit; of_factors = (constant_exact bit, tt); of_terms = (constant_exact bit, tt) }
all_exact (pin place) = record { itself = pin_exact place; of_factors = (pin_exact place, tt); of_terms = (pin_exact place, tt) }
all_exact (complement e) =
    let s : IsExact (complement e) = complement_exact e (all_exact e).itself in
    record { itself = s; of_factors = (s, tt); of_terms = (s, tt) }
all_exact (product d e) =
    let all : AllByRecursion IsExact (factors d ++ factors e) = all_append IsExact (factors d) (factors e) (all_exact d).of_factors (all_exact e).of_factors in
    let s : IsExact (product d e) = product_exact d e all in
    record { itself = s; of_factors = all; of_terms = (s, tt) }
all_exact (sum d e) =
    let all : AllByRecursion IsExact (terms d ++ terms e) = all_append IsExact (terms d) (terms e) (all_exact d).of_terms (all_exact e).of_terms in
    let s : IsExact (sum d e) = sum_exact d e all in
    record { itself = s; of_factors = (s, tt); of_terms = all }

pub patterns_exact : (e : Formula) (t : Tree ℕ) → In t (patterns_of e) ↔ IsPattern e t
patterns_exact e t = (all_exact e).itself t

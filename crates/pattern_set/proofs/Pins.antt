-- The leaves of a pattern are the pins of its formula.
use Rattle.std.proofs.Common.{ℕ, List, [], ◌∷◌, ◌++◌, inl, inr, ◌⊎◌, ◌↔◌}
use Rattle.subject_tree.specs.Trees.{Tree, Leaf, Inv, Nand, complement_of, product_of, sum_of}
use Rattle.genlib_expr.specs.Formula.{Formula, constant, pin, complement, product, sum}
use Rattle.pattern_set.specs.Patterns.{factors, terms, IsParting, none_left, to_first, to_second, IsPattern, of_pin, of_complement, of_product, of_sum, IsJoined, of_one, of_parts}
use Rattle.pattern_set.specs.Values.{HasPin, HasLeaf}

module _ (place : ℕ) where
  -- a pin stands in some formula of a list
  SomePin : List Formula → Type 0
  SomePin [] = ⊥
  SomePin (e ∷ es) = HasPin place e ⊎ SomePin es

  either_pin : (xs ys : List Formula) → SomePin (xs ++ ys) → SomePin xs ⊎ SomePin ys
  unfolding SomePin
  either_pin [] ys h = inr h
  either_pin (x ∷ xs) ys (inl h) = inl (inl h)
  either_pin (x ∷ xs) ys (inr h) = elim (either_pin xs ys h) as (λ _. SomePin (x ∷ xs) ⊎ SomePin ys) [ inl a ↦ inl (inr a) | inr b ↦ inr b ]

  left_pin : (xs ys : List Formula) → SomePin xs → SomePin (xs ++ ys)
  unfolding SomePin
  left_pin [] ys h = absurd h
  left_pin (x ∷ xs) ys (inl h) = inl h
  left_pin (x ∷ xs) ys (inr h) = inr (left_pin xs ys h)

  right_pin : (xs ys : List Formula) → SomePin ys → SomePin (xs ++ ys)
  unfolding SomePin
  right_pin [] ys h = h
  right_pin (x ∷ xs) ys h = inr (right_pin xs ys h)

  parted_pin : {xs ys zs : List Formula} → IsParting zs xs ys → SomePin zs → SomePin xs ⊎ SomePin ys
  unfolding SomePin
  parted_pin none_left h = inl h
  parted_pin (to_first p) (inl h) = inl (inl h)
  parted_pin {xs} {ys} (to_first {x = x} {xs = us} p) (inr h) = elim (parted_pin p h) as (λ _. SomePin (x ∷ us) ⊎ SomePin ys) [ inl a ↦ inl (inr a) | inr b ↦ inr b ]
  parted_pin (to_second p) (inl h) = inr (inl h)
  parted_pin {xs} {ys} (to_second {x = x} {ys = us} p) (inr h) = elim (parted_pin p h) as (λ _. SomePin xs ⊎ SomePin (x ∷ us)) [ inl a ↦ inl a | inr b ↦ inr (inr b) ]

  first_pin : {xs ys zs : List Formula} → IsParting zs xs ys → SomePin xs → SomePin zs
  unfolding SomePin
  first_pin none_left h = h
  first_pin (to_first p) (inl h) = inl h
  first_pin (to_first p) (inr h) = inr (first_pin p h)
  first_pin (to_second p) h = inr (first_pin p h)

  second_pin : {xs ys zs : List Formula} → IsParting zs xs ys → SomePin ys → SomePin zs
  unfolding SomePin
  second_pin none_left h = h
  second_pin (to_first p) h = inr (second_pin p h)
  second_pin (to_second p) (inl h) = inl h
  second_pin (to_second p) (inr h) = inr (second_pin p h)

  -- the leaves of joined trees are those of both
  record Joins (join : Tree ℕ → Tree ℕ → Tree ℕ) : Type 0 where
    either : (t u : Tree ℕ) → HasLeaf place (join t u) → HasLeaf place t ⊎ HasLeaf place u
    left : (t u : Tree ℕ) → HasLeaf place t → HasLeaf place (join t u)
    right : (t u : Tree ℕ) → HasLeaf place u → HasLeaf place (join t u)

  complement_in : (t : Tree ℕ) → HasLeaf place (complement_of t) → HasLeaf place t
  unfolding HasLeaf
  complement_in (Leaf p) h = h
  complement_in (Inv t) h = h
  complement_in (Nand t u) h = h

  complement_out : (t : Tree ℕ) → HasLeaf place t → HasLeaf place (complement_of t)
  unfolding HasLeaf
  complement_out (Leaf p) h = h
  complement_out (Inv t) h = h
  complement_out (Nand t u) h = h

  products : Joins product_of
  unfolding HasLeaf
  products = record { either = λ t u h. h; left = λ t u h. inl h; right = λ t u h. inr h }

  sums : Joins sum_of
  unfolding HasLeaf
  sums = record {
    either = λ t u h. elim h as (λ _. HasLeaf place t ⊎ HasLeaf place u) [ inl a ↦ inl (complement_in t a) | inr b ↦ inr (complement_in u b) ];
    left = λ t u h. inl (complement_out t h);
    right = λ t u h. inr (complement_out u h);
  }

  factors_in : (e : Formula) → SomePin (factors e) → HasPin place e
  unfolding SomePin factors HasPin
  factors_in (constant bit) h = elim h as (λ _. ⊥) [ inl a ↦ a | inr b ↦ b ]
  factors_in (pin p) (inl h) = h
  factors_in (pin p) (inr h) = elim h [ ]
  factors_in (complement e) (inl h) = h
  factors_in (complement e) (inr h) = elim h [ ]
  factors_in (product d e) h = elim (either_pin (factors d) (factors e) h) as (λ _. HasPin place d ⊎ HasPin place e) [ inl a ↦ inl (factors_in d a) | inr b ↦ inr (factors_in e b) ]
  factors_in (sum d e) (inl h) = h
  factors_in (sum d e) (inr h) = elim h [ ]

  factors_out : (e : Formula) → HasPin place e → SomePin (factors e)
  unfolding SomePin factors HasPin
  factors_out (constant bit) h = absurd h
  factors_out (pin p) h = inl h
  factors_out (complement e) h = inl h
  factors_out (product d e) (inl h) = left_pin (factors d) (factors e) (factors_out d h)
  factors_out (product d e) (inr h) = right_pin (factors d) (factors e) (factors_out e h)
  factors_out (sum d e) h = inl h

  terms_in : (e : Formula) → SomePin (terms e) → HasPin place e
  unfolding SomePin terms HasPin
  terms_in (constant bit) h = elim h as (λ _. ⊥) [ inl a ↦ a | inr b ↦ b ]
  terms_in (pin p) (inl h) = h
  terms_in (pin p) (inr h) = elim h [ ]
  terms_in (complement e) (inl h) = h
  terms_in (complement e) (inr h) = elim h [ ]
  terms_in (product d e) (inl h) = h
  terms_in (product d e) (inr h) = elim h [ ]
  terms_in (sum d e) h = elim (either_pin (terms d) (terms e) h) as (λ _. HasPin place d ⊎ HasPin place e) [ inl a ↦ inl (terms_in d a) | inr b ↦ inr (terms_in e b) ]

  terms_out : (e : Formula) → HasPin place e → SomePin (terms e)
  unfolding SomePin terms HasPin
  terms_out (constant bit) h = absurd h
  terms_out (pin p) h = inl h
  terms_out (complement e) h = inl h
  terms_out (product d e) h = inl h
  terms_out (sum d e) (inl h) = left_pin (terms d) (terms e) (terms_out d h)
  terms_out (sum d e) (inr h) = right_pin (terms d) (terms e) (terms_out e h)

  mutual
    unfolding SomePin HasLeaf HasPin factors terms

    pattern_in : {e : Formula} {t : Tree ℕ} → IsPattern e t → HasLeaf place t → HasPin place e
    pattern_in (of_pin p) h = h
    pattern_in (of_complement {t = t} p) h = pattern_in p (complement_in t h)
    pattern_in (of_product {d = d} {e = e} j) h = factors_in (product d e) (joined_in products j h)
    pattern_in (of_sum {d = d} {e = e} j) h = terms_in (sum d e) (joined_in sums j h)

    joined_in : {join : Tree ℕ → Tree ℕ → Tree ℕ} {es : List Formula} {t : Tree ℕ} → Joins join → IsJoined join es t → HasLeaf place t → SomePin es
    joined_in joins (of_one p) h = inl (pattern_in p h)
    joined_in joins (of_parts {e = e} {es = es} {t = t} {u = u} parted left right) h = elim (joins.either t u h) as (λ _. SomePin (e ∷ es)) [
      | inl a ↦ first_pin (to_first {x = e} parted) (joined_in joins left a)
      | inr b ↦ second_pin (to_first {x = e} parted) (joined_in joins right b)
    ]

  mutual
    unfolding SomePin HasLeaf HasPin factors terms

    pattern_out : {e : Formula} {t : Tree ℕ} → IsPattern e t → HasPin place e → HasLeaf place t
    pattern_out (of_pin p) h = h
    pattern_out (of_complement {t = t} p) h = complement_out t (pattern_out p h)
    pattern_out (of_product {d = d} {e = e} j) h = joined_out products j (factors_out (product d e) h)
    pattern_out (of_sum {d = d} {e = e} j) h = joined_out sums j (terms_out (sum d e) h)

    joined_out : {join : Tree ℕ → Tree ℕ → Tree ℕ} {es : List Formula} {t : Tree ℕ} → Joins join → IsJoined join es t → SomePin es → HasLeaf place t
    joined_out joins (of_one p) (inl h) = pattern_out p h
    joined_out joins (of_one p) (inr h) = elim h [ ]
    joined_out joins (of_parts {join = join} {e = e} {t = t} {u = u} parted left right) h = elim (parted_pin (to_first {x = e} parted) h) as (λ _. HasLeaf place (join t u)) [
      | inl a ↦ joins.left t u (joined_out joins left a)
      | inr b ↦ joins.right t u (joined_out joins right b)
    ]

pub pattern-pins : (place : ℕ) (e : Formula) (t : Tree ℕ) → IsPattern e t → HasLeaf place t ↔ HasPin place e
pattern-pins place e t p = (λ h. pattern_in place p h, λ h. pattern_out place p h)

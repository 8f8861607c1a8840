-- A pattern has the value of its formula.
use Rattle.std.proofs.Common.{◌≡◌, ℕ, Bool, true, false, not, ◌&&◌, ◌||◌, List, [], ◌∷◌, ◌++◌, refl, sym, ap, ◌∙◌}
use Rattle.std.specs.List.{list_all, list_any}
use Rattle.std.proofs.Math.Bool.{and-true, or-false}
use Rattle.subject_tree.specs.Trees.{Tree, product_of, sum_of, value_at}
use Rattle.subject_tree.proofs.Values.{complement-value, product-value, sum-value}
use Rattle.genlib_expr.specs.Formula.{Formula, constant, pin, complement, product, sum}
use Rattle.genlib_expr.specs.Values.{formula_value}
use Rattle.pattern_set.specs.Patterns.{factors, terms, IsParting, none_left, to_first, to_second, IsPattern, of_pin, of_complement, of_product, of_sum, IsJoined, of_one, of_parts}

and_assoc : (a b c : Bool) → (a && (b && c)) ≡ ((a && b) && c)
and_assoc true b c = refl
and_assoc false b c = refl

or_assoc : (a b c : Bool) → (a || (b || c)) ≡ ((a || b) || c)
or_assoc true b c = refl
or_assoc false b c = refl

and_past : (a b c : Bool) → (a && (b && c)) ≡ (b && (a && c))
and_past true b c = refl
and_past false true c = refl
and_past false false c = refl

or_past : (a b c : Bool) → (a || (b || c)) ≡ (b || (a || c))
or_past false b c = refl
or_past true true c = refl
or_past true false c = refl

parted_all : (f : Formula → Bool) {xs ys zs : List Formula} → IsParting zs xs ys → list_all f zs ≡ (list_all f xs && list_all f ys)
parted_all f none_left = refl
parted_all f (to_first {x = x} {xs = xs} {ys = ys} h) = ap (λ (b : Bool). f x && b) (parted_all f h) ∙ and_assoc (f x) (list_all f xs) (list_all f ys)
parted_all f (to_second {x = x} {xs = xs} {ys = ys} h) = ap (λ (b : Bool). f x && b) (parted_all f h) ∙ and_past (f x) (list_all f xs) (list_all f ys)

parted_any : (f : Formula → Bool) {xs ys zs : List Formula} → IsParting zs xs ys → list_any f zs ≡ (list_any f xs || list_any f ys)
parted_any f none_left = refl
parted_any f (to_first {x = x} {xs = xs} {ys = ys} h) = ap (λ (b : Bool). f x || b) (parted_any f h) ∙ or_assoc (f x) (list_any f xs) (list_any f ys)
parted_any f (to_second {x = x} {xs = xs} {ys = ys} h) = ap (λ (b : Bool). f x || b) (parted_any f h) ∙ or_past (f x) (list_any f xs) (list_any f ys)

all_of_both : (f : Formula → Bool) (xs ys : List Formula) → list_all f (xs ++ ys) ≡ (list_all f xs && list_all f ys)
all_of_both f [] ys = refl
all_of_both f (x ∷ xs) ys = ap (λ (b : Bool). f x && b) (all_of_both f xs ys) ∙ and_assoc (f x) (list_all f xs) (list_all f ys)

any_of_both : (f : Formula → Bool) (xs ys : List Formula) → list_any f (xs ++ ys) ≡ (list_any f xs || list_any f ys)
any_of_both f [] ys = refl
any_of_both f (x ∷ xs) ys = ap (λ (b : Bool). f x || b) (any_of_both f xs ys) ∙ or_assoc (f x) (list_any f xs) (list_any f ys)

-- what is asked of an operation on truth values that joined trees have, and of its meaning over lists
record Means (value : ℕ → Bool) (join : Tree ℕ → Tree ℕ → Tree ℕ) (op : Bool → Bool → Bool) (over : List Formula → Bool) : Type 0 where
  one : (e : Formula) → over (e ∷ []) ≡ formula_value value e
  parts : {xs ys zs : List Formula} → IsParting zs xs ys → over zs ≡ op (over xs) (over ys)
  joins : (t u : Tree ℕ) → value_at value (join t u) ≡ op (value_at value t) (value_at value u)

module _ (value : ℕ → Bool) where
  products : Means value product_of (λ a b. a && b) (list_all (formula_value value))
  products = record { one = λ e. and-true (formula_value value e); parts = λ h. parted_all (formula_value value) h; joins = product-value value }

  sums : Means value sum_of (λ a b. a || b) (list_any (formula_value value))
  sums = record { one = λ e. or-false (formula_value value e); parts = λ h. parted_any (formula_value value) h; joins = sum-value value }

  factors_value : (e : Formula) → list_all (formula_value value) (factors e) ≡ formula_value value e
  unfolding factors formula_value
  factors_value (constant bit) = and-true bit
  factors_value (pin place) = and-true (value place)
  factors_value (complement e) = and-true (not (formula_value value e))
  factors_value (product d e) =
      all_of_both (formula_value value) (factors d) (factors e)
      ∙ (ap (λ (b : Bool). b && list_all (formula_value value) (factors e)) (factors_value d) ∙ ap (λ (b : Bool). formula_value value d && b) (factors_value e))
  factors_value (sum d e) = and-true (formula_value value d || formula_value value e)

  terms_value : (e : Formula) → list_any (formula_value value) (terms e) ≡ formula_value value e
  unfolding terms formula_value
  terms_value (constant bit) = or-false bit
  terms_value (pin place) = or-false (value place)
  terms_value (complement e) = or-false (not (formula_value value e))
  terms_value (product d e) = or-false (formula_value value d && formula_value value e)
  terms_value (sum d e) =
      any_of_both (formula_value value) (terms d) (terms e)
      ∙ (ap (λ (b : Bool). b || list_any (formula_value value) (terms e)) (terms_value d) ∙ ap (λ (b : Bool). formula_value value d || b) (terms_value e))

  mutual
    unfolding value_at formula_value factors terms

    pub pattern-value : {e : Formula} {t : Tree ℕ} → IsPattern e t → value_at value t ≡ formula_value value e
    pattern-value (of_pin place) = refl
    pattern-value (of_complement {t = t} p) = complement-value value t ∙ ap not (pattern-value p)
    pattern-value (of_product {d = d} {e = e} j) = joined-value (λ a b. a && b) (list_all (formula_value value)) products j ∙ factors_value (product d e)
    pattern-value (of_sum {d = d} {e = e} j) = joined-value (λ a b. a || b) (list_any (formula_value value)) sums j ∙ terms_value (sum d e)

    joined-value : {join : Tree ℕ → Tree ℕ → Tree ℕ} {es : List Formula} {t : Tree ℕ} (op : Bool → Bool → Bool) (over : List Formula → Bool) → Means value join op over → IsJoined join es t → value_at value t ≡ over es
    joined-value op over means (of_one {e = e} p) = pattern-value p ∙ sym (means.one e)
    joined-value op over means (of_parts {e = e} {y = y} {xs = xs} {ys = ys} {t = t} {u = u} parted left right) =
        means.joins t u
        ∙ (ap (λ (b : Bool). op b (value_at value u)) (joined-value op over means left)
        ∙ (ap (op (over (e ∷ xs))) (joined-value op over means right) ∙ sym (means.parts (to_first {x = e} parted))))

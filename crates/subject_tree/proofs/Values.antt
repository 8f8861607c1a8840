-- The values of trees.
use Rattle.std.proofs.Common.{◌≡◌, Bool, true, false, not, ◌&&◌, ◌||◌, refl, sym, ap, ◌∙◌}
use Rattle.subject_tree.specs.Trees.{Tree, Leaf, Inv, Nand, complement_of, product_of, sum_of, value_at}

not_not : (b : Bool) → not (not b) ≡ b
not_not true = refl
not_not false = refl

nor : (a b : Bool) → not (not a && not b) ≡ (a || b)
nor true b = refl
nor false b = not_not b

pub complement-value : {A : Type 0} (value : A → Bool) (t : Tree A) → value_at value (complement_of t) ≡ not (value_at value t)
unfolding value_at
complement-value value (Leaf leaf) = refl
complement-value value (Inv t) = sym (not_not (value_at value t))
complement-value value (Nand t u) = refl

pub product-value : {A : Type 0} (value : A → Bool) (t u : Tree A) → value_at value (product_of t u) ≡ (value_at value t && value_at value u)
unfolding value_at
product-value value t u = not_not (value_at value t && value_at value u)

pub sum-value : {A : Type 0} (value : A → Bool) (t u : Tree A) → value_at value (sum_of t u) ≡ (value_at value t || value_at value u)
unfolding value_at
sum-value value t u =
    ap (λ (b : Bool). not (b && value_at value (complement_of u))) (complement-value value t)
    ∙ (ap (λ (b : Bool). not (not (value_at value t) && b)) (complement-value value u) ∙ nor (value_at value t) (value_at value u))

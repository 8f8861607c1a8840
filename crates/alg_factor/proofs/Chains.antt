-- Products followed by a form: one more at the end, and what they are together.
use Rattle.std.proofs.Common.{◌≡◌, ℕ, ◌<◌, Bool, Option, List, [], ◌∷◌, ◌++◌, length, refl, ap, subst, arith}
use Rattle.cube_cover.specs.Literals.{cover_literals}
use Rattle.alg_factor.specs.Forms.{Form, Split, with_literal, no_literal, IsChosen, NoneShared, IsFactored, Sum}
use Rattle.alg_factor.specs.Shapes.{shape}
use Rattle.alg_factor.specs.Chains.{chain_form}
use Rattle.alg_factor.specs.declared.factoring.Product.{Product}
use Rattle.alg_factor.proofs.Laws.{literals-parts}

pub chain_form-push : {X : Type 0} (f : X → List (Option Bool)) (products : List (Product X)) (product : Product X) (rest : Form) → chain_form f (products ++ product ∷ []) rest ≡ chain_form f products (Split product.place product.bit (shape f product.quotient) rest)
unfolding chain_form
chain_form-push f [] product rest = refl
chain_form-push f (first ∷ products) product rest = ap (λ form. Split first.place first.bit (shape f first.quotient) form) (chain_form-push f products product rest)

-- both parts by a chosen literal have fewer literals than the rows
pub with-fewer : (i : ℕ) (b : Bool) (rows : List (List (Option Bool))) → IsChosen i b rows → cover_literals (with_literal i b rows) < cover_literals rows
with-fewer i b rows h = omega (arith, literals-parts i b rows, h.two)

pub others-fewer : (i : ℕ) (b : Bool) (rows : List (List (Option Bool))) → IsChosen i b rows → cover_literals (no_literal i b rows) < cover_literals rows
others-fewer i b rows h = omega (arith, literals-parts i b rows, h.two)

pub empty_list : {X : Type 0} (xs : List X) → length xs ≡ 0 → xs ≡ []
empty_list [] h = refl
empty_list (x ∷ xs) h = absurd (omega arith)

-- the factored form by that of each part
pub factored-split : (i : ℕ) (b : Bool) (rows with others : List (List (Option Bool))) (quotient rest : Form) → IsChosen i b rows → with ≡ with_literal i b rows → others ≡ no_literal i b rows
    → IsFactored with quotient → IsFactored others rest → IsFactored rows (Split i b quotient rest)
unfolding IsFactored
factored-split i b rows with others quotient rest h e d q r = (
  h,
  subst (λ (parts : List (List (Option Bool))). IsFactored parts quotient) e q,
  subst (λ (parts : List (List (Option Bool))). IsFactored parts rest) d r,
)

pub factored-sum : (rows : List (List (Option Bool))) → NoneShared rows → IsFactored rows (Sum rows)
unfolding IsFactored
factored-sum rows h = (refl, h)

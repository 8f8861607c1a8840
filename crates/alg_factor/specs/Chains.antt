-- Products followed by a form that is added to them, as one form. No public clause needs this
-- definition. Source: the project's own representation.
use Rattle.std.specs.Prelude.{Bool, Option, List, [], ◌∷◌}
use Rattle.alg_factor.specs.Forms.{Form, Split}
use Rattle.alg_factor.specs.Shapes.{shape}
use Rattle.alg_factor.specs.declared.factoring.Product.{Product}

-- the form of some products and a rest: one split after the other
unfoldable pub chain_form : {X : Type 0} → (X → List (Option Bool)) → List (Product X) → Form → Form
chain_form f [] rest = rest
chain_form f (product ∷ products) rest = Split product.place product.bit (shape f product.quotient) (chain_form f products rest)

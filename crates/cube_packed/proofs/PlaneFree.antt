-- A product with a row without the columns that have a literal.
use Rattle.std.proofs.Common.{◌≡◌, Bool, true, Option, Some, None, List, [], ◌∷◌, length, refl, sym, ap, ◌∙◌, subst, arith}
use Rattle.cube_cover.specs.Covers.{Intersects, product_of, without_of}
use Rattle.cube_cover.specs.Literals.{rows_intersect}
use Rattle.cube_cover.proofs.Products.{intersects_from_test}
use Rattle.cube_cover.proofs.Turned.{length-without_of}

pub free_product : (a b : List (Option Bool)) → length a ≡ length b → product_of a (without_of b a) ≡ product_of a b
unfolding product_of without_of
free_product [] b e = refl
free_product (l ∷ ls) [] e = absurd (omega arith)
free_product (None ∷ ls) (m ∷ ms) e = ap (λ (r : List (Option Bool)). m ∷ r) (free_product ls ms (omega arith))
free_product (Some x ∷ ls) (m ∷ ms) e = ap (λ (r : List (Option Bool)). Some x ∷ r) (free_product ls ms (omega arith))

free_test : (a b : List (Option Bool)) → length a ≡ length b → rows_intersect a (without_of b a) ≡ true
unfolding rows_intersect without_of
free_test [] b e = refl
free_test (l ∷ ls) [] e = absurd (omega arith)
free_test (None ∷ ls) (m ∷ ms) e = free_test ls ms (omega arith)
free_test (Some x ∷ ls) (m ∷ ms) e = free_test ls ms (omega arith)

pub free_width : (a b free : List (Option Bool)) → length a ≡ length b → free ≡ without_of b a → length a ≡ length free
free_width a b free e h = e ∙ sym (length-without_of b a (sym e)) ∙ sym (ap length h)

pub free_intersects : (a b free : List (Option Bool)) → length a ≡ length b → free ≡ without_of b a → Intersects a free
free_intersects a b free e h =
    subst (λ (row : List (Option Bool)). Intersects a row) (sym h) (intersects_from_test a (without_of b a) (free_width a b (without_of b a) e refl) (free_test a b e))

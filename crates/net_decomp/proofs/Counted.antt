-- Rows without literals.
use Rattle.std.proofs.Common.{◌≡◌, ℕ, ◌+◌, Bool, true, false, Option, Some, None, List, [], ◌∷◌, eqb, refl, sym, ap, ◌∙◌, arith}
use Rattle.std.proofs.lemmas.Bool.{eqb-true}
use Rattle.cube_cover.specs.Literals.{row_literals, all_dashes}

-- a row of dashes has no literal
pub none_dashes : (row : List (Option Bool)) → all_dashes row ≡ eqb (row_literals row) 0
unfolding all_dashes row_literals
none_dashes [] = refl
none_dashes (None ∷ row) = none_dashes row ∙ ap (λ (n : ℕ). eqb n 0) (let e : row_literals row ≡ 0 + row_literals row = omega arith in e)
none_dashes (Some bit ∷ row) = cases (eqb (1 + row_literals row) 0) refl
  where
    cases : (b : Bool) → eqb (1 + row_literals row) 0 ≡ b → false ≡ eqb (1 + row_literals row) 0
    cases true e = absurd (let z : 1 + row_literals row ≡ 0 = eqb-true (1 + row_literals row) 0 e in omega (arith, z))
    cases false e = sym e

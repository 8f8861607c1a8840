-- Weak division of a sum of cubes by another, and its remainder. Source: Brayton, Rudell,
-- Sangiovanni-Vincentelli, Wang, "MIS: A Multiple-Level Logic Optimization System" (1987); De
-- Micheli, "Synthesis and Optimization of Digital Circuits", chapter 8 (algebraic division).
use Rattle.std.specs.Prelude.{◌≡◌, ℕ, ◌+◌, ◌≤◌, Bool, if◌then◌else◌, Option, Some, None, List, [], ◌∷◌, length, slice_index_or, is_some}
use Rattle.std.specs.List.{position_from}
use Rattle.alg_div.specs.Cubes.{Has, times, products, row_eq}

-- the cube has no literal in a column where some row has one
abbrev pub IsApart : List (Option Bool) → List (List (Option Bool)) → Type 0
IsApart cube rows =
    (row : List (Option Bool)) → Has row rows → (i : ℕ) (bit : Bool) → slice_index_or row i None ≡ Some bit → slice_index_or cube i None ≡ None

-- a cube of the quotient of f by d: it has no variable of d, and its product with each cube of d is
-- a row of f
pub record IsTerm (width : ℕ) (f d : List (List (Option Bool))) (cube : List (Option Bool)) : Type 0 where
  pub wide : length cube ≡ width
  pub apart : IsApart cube d
  pub rows : (k : List (Option Bool)) → Has k d → Has (times cube k) f

-- the cubes have positions by p, which increase from low and stay below high
unfoldable pub Rises : ℕ → ℕ → (List (Option Bool) → Option ℕ) → List (List (Option Bool)) → Type 0
Rises low high p [] = low ≤ high
Rises low high p (cube ∷ cubes) = (i : ℕ) × (low ≤ i) × (p cube ≡ Some i) × Rises (i + 1) high p cubes

-- all cubes of the quotient and no others, each once, in the order of their products with the cube
-- k of d in f
pub record IsQuotientBy (width : ℕ) (f : List (List (Option Bool))) (k : List (Option Bool)) (d q : List (List (Option Bool))) : Type 0 where
  pub only : (cube : List (Option Bool)) → Has cube q → IsTerm width f d cube
  pub every : (cube : List (Option Bool)) → IsTerm width f d cube → Has cube q
  pub order : Rises 0 (length f) (λ cube. position_from (row_eq (times cube k)) 0 f) q

-- the quotient of f by d: empty if d has no cube, else in the order of the products with its first
-- cube
abbrev pub IsQuotient : ℕ → List (List (Option Bool)) → List (List (Option Bool)) → List (List (Option Bool)) → Type 0
IsQuotient width f [] q = q ≡ []
IsQuotient width f (k ∷ ks) q = IsQuotientBy width f k (k ∷ ks) q

-- the rows that are not among the given ones, in order
unfoldable pub others : List (List (Option Bool)) → List (List (Option Bool)) → List (List (Option Bool))
others [] rows = []
others (row ∷ rest) rows = if is_some (position_from (row_eq row) 0 rows) then others rest rows else row ∷ others rest rows

-- the remainder: the rows of f that are not the product of a cube of q and a cube of d
abbrev pub IsRemainder : List (List (Option Bool)) → List (List (Option Bool)) → List (List (Option Bool)) → List (List (Option Bool)) → Type 0
IsRemainder f d q r = r ≡ others f (products q d)

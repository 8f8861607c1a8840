-- Kernels of a sum of cubes: its quotients by a cube that have two cubes or more and no common
-- literal. Source: Brayton and McMullen, "The Decomposition and Factorization of Boolean
-- Expressions" (1982); De Micheli, "Synthesis and Optimization of Digital Circuits", chapter 8
-- (kernels).
use Rattle.std.specs.Prelude.{◌≡◌, ℕ, ◌<◌, ◌≤◌, ◌↔◌, Bool, Option, Some, None, List, [], ◌∷◌, map, length, slice_index_or}
use Rattle.std.specs.Ordering.{bool_cmp}
use Rattle.std.specs.Option.{option_cmp}
use Rattle.std.specs.Cmp.Lexicographic.{slice_cmp}
use Rattle.std.specs.declared.cmp.Ordering.{Ordering}
use Rattle.std.specs.declared.cmp.Ordering.TheVariants.{Less}
use Rattle.cube_cover.specs.Covers.{Shape}
use Rattle.alg_div.specs.Cubes.{Has}
use Rattle.alg_div.specs.Quotient.{IsTerm}

-- the order of rows, column by column, a dash before a negative before a positive literal
abbrev pub row_cmp : List (Option Bool) → List (Option Bool) → Ordering
row_cmp = slice_cmp (option_cmp bool_cmp)

-- the order of lists of rows, row by row
abbrev pub rows_cmp : List (List (Option Bool)) → List (List (Option Bool)) → Ordering
rows_cmp = slice_cmp row_cmp

-- each element is below all later ones, so each occurs once
unfoldable pub Ascends : {X : Type 0} → (X → X → Ordering) → List X → Type 0
Ascends cmp [] = Unit {0}
Ascends {X} cmp (x ∷ xs) = ((y : X) → Has y xs → cmp x y ≡ Less) × Ascends cmp xs

-- no literal is common to all rows
abbrev pub NoCommon : List (List (Option Bool)) → Type 0
NoCommon rows = (i : ℕ) (bit : Bool) → ((row : List (Option Bool)) → Has row rows → slice_index_or row i None ≡ Some bit) → ⊥

-- exactly the cubes of the quotient of f by some cube, in increasing order; two or more, without a
-- common literal
pub record IsKernel (width : ℕ) (f k : List (List (Option Bool))) : Type 0 where
  pub order : Ascends row_cmp k
  pub quotient : (cube : List (Option Bool)) × (length cube ≡ width) × ((row : List (Option Bool)) → Has row k ↔ IsTerm width f (cube ∷ []) row)
  pub two : 2 ≤ length k
  pub free : NoCommon k

-- all kernels and no others, each once, in increasing order
pub record AreKernels (width : ℕ) (f : List (List (Option Bool))) (ks : List (List (List (Option Bool)))) : Type 0 where
  pub only : (k : List (List (Option Bool))) → Has k ks → IsKernel width f k
  pub every : (k : List (List (Option Bool))) → IsKernel width f k → Has k ks
  pub order : Ascends rows_cmp ks

-- there are more than n kernels
abbrev pub MoreKernels : ℕ → ℕ → List (List (Option Bool)) → Type 0
MoreKernels n width f =
    (ks : List (List (List (Option Bool)))) × (n < length ks) × Ascends rows_cmp ks × ((k : List (List (Option Bool))) → Has k ks → IsKernel width f k)

-- the rows of covers
abbrev pub rows_in : List Shape → List (List (List (Option Bool)))
rows_in covers = map (λ cover. cover.rows) covers

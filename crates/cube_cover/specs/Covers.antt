-- Covers as a width and a list of rows, and definitions of rows and covers by points. Source:
-- Brayton, Hachtel, McMullen, Sangiovanni-Vincentelli, "Logic Minimization Algorithms for VLSI
-- Synthesis" (cubes, cofactors, tautology); De Micheli, "Synthesis and Optimization of Digital
-- Circuits", chapter 7. Rows, points and matching are those of sis_base.
use Rattle.std.specs.Prelude.{◌≡◌, ℕ, Bool, true, ◌&&◌, if◌then◌else◌, Option, Some, None, List, [], ◌∷◌, length, map, slice_index_or, slice_set}
use Rattle.sis_base.specs.Rows.{agrees, matches, some_matches, IsPoint}
use Rattle.cube_cover.specs.Literals.{literal_without, literal_shared}

-- what contracts see of a cover: the number of inputs, and the rows in order
pub record Shape : Type 0 where
  pub width : ℕ
  pub rows : List (List (Option Bool))

-- some point is in both rows
abbrev pub Intersects : List (Option Bool) → List (Option Bool) → Type 0
Intersects row other =
    (point : List Bool) × IsPoint (length row) point × (matches row point ≡ true) × (matches other point ≡ true)

-- each point of the other row is in the row
abbrev pub ContainsRow : List (Option Bool) → List (Option Bool) → Type 0
ContainsRow row other =
    (point : List Bool) → IsPoint (length row) point → matches other point ≡ true → matches row point ≡ true

-- a third row has exactly the points that both rows have
abbrev pub IsProduct : List (Option Bool) → List (Option Bool) → List (Option Bool) → Type 0
IsProduct row other product =
    (point : List Bool) → IsPoint (length row) point → matches product point ≡ (matches row point && matches other point)

-- the product, literal by literal: the first row's literal, or the other's where the first has a
-- dash
unfoldable pub product_of : List (Option Bool) → List (Option Bool) → List (Option Bool)
product_of [] others = []
product_of (literal ∷ literals) [] = []
product_of (None ∷ literals) (other ∷ others) = other ∷ product_of literals others
product_of (Some bit ∷ literals) (other ∷ others) = Some bit ∷ product_of literals others

-- a row without its literals in the columns where the mask has one
unfoldable pub without_of : List (Option Bool) → List (Option Bool) → List (Option Bool)
without_of [] masks = []
without_of (literal ∷ literals) [] = []
without_of (literal ∷ literals) (mask ∷ masks) = literal_without literal mask ∷ without_of literals masks

-- the literals that two rows have in common, and dashes elsewhere: the largest row of literals that
-- contains both
unfoldable pub shared_of : List (Option Bool) → List (Option Bool) → List (Option Bool)
shared_of [] others = []
shared_of (literal ∷ literals) [] = []
shared_of (literal ∷ literals) (other ∷ others) = literal_shared literal other ∷ shared_of literals others

-- the cofactor: the rows that agree with a bit in a column, without their literal there
unfoldable pub cofactor_rows : ℕ → Bool → List (List (Option Bool)) → List (List (Option Bool))
cofactor_rows place bit [] = []
cofactor_rows place bit (row ∷ rows) =
    if agrees (slice_index_or row place None) bit then slice_set row place None ∷ cofactor_rows place bit rows else cofactor_rows place bit rows

-- some row matches at each point
abbrev pub IsTautology : Shape → Type 0
IsTautology cover = (point : List Bool) → IsPoint cover.width point → some_matches cover.rows point ≡ true

-- the rows that agree with a bit in a column, unchanged
unfoldable pub agreeing_rows : ℕ → Bool → List (List (Option Bool)) → List (List (Option Bool))
agreeing_rows place bit [] = []
agreeing_rows place bit (row ∷ rows) =
    if agrees (slice_index_or row place None) bit then row ∷ agreeing_rows place bit rows else agreeing_rows place bit rows

-- the rows at some indices, counted from 0
abbrev pub picked_rows : List (List (Option Bool)) → List ℕ → List (List (Option Bool))
picked_rows rows numbers = map (λ number. slice_index_or rows number []) numbers

-- some row matches at each point that a given row has
abbrev pub IsCovered : List (Option Bool) → List (List (Option Bool)) → Type 0
IsCovered given rows =
    (point : List Bool) → IsPoint (length given) point → matches given point ≡ true → some_matches rows point ≡ true

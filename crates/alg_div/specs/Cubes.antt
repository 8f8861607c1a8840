-- Membership in a list, and products of cubes, column by column. Source: De Micheli, "Synthesis and
-- Optimization of Digital Circuits", chapter 8 (the algebraic model); Brayton, Rudell,
-- Sangiovanni-Vincentelli, Wang, "MIS: A Multiple-Level Logic Optimization System" (1987). A cube
-- is a row: some bit for a literal, none for a dash.
use Rattle.std.specs.Prelude.{◌≡◌, ◌⊎◌, Bool, Option, List, [], ◌∷◌, ◌++◌}
use Rattle.std.specs.Bool.{beq}
use Rattle.std.specs.Option.{option_eq}
use Rattle.cube_cover.specs.Literals.{literal_product}
use lib.Pointwise.{pointwise}

-- an element of a list
abbrev pub Has : {X : Type 0} → X → List X → Type 0
Has x [] = ⊥
Has x (y ∷ ys) = (x ≡ y) ⊎ Has x ys

-- the product of two cubes that nowhere contradict: the literals of both
unfoldable pub times : List (Option Bool) → List (Option Bool) → List (Option Bool)
times [] row = row
times (literal ∷ literals) [] = literal ∷ literals
times (literal ∷ literals) (other ∷ others) = literal_product literal other ∷ times literals others

-- the products of a cube and each row
unfoldable pub products_by : List (Option Bool) → List (List (Option Bool)) → List (List (Option Bool))
products_by cube [] = []
products_by cube (row ∷ rows) = times cube row ∷ products_by cube rows

-- all products of two lists of cubes
unfoldable pub products : List (List (Option Bool)) → List (List (Option Bool)) → List (List (Option Bool))
products [] rows = []
products (cube ∷ cubes) rows = products_by cube rows ++ products cubes rows

-- whether two rows have the same literals
abbrev pub row_eq : List (Option Bool) → List (Option Bool) → Bool
row_eq = pointwise (option_eq beq)

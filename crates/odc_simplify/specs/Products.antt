-- The functions that are built while a row is tested, each from the one before, and when one is too
-- big: a product takes the literals of a row in the order of columns, and other rows are removed
-- one after the other.
-- Source: R. E. Bryant, "Graph-Based Algorithms for Boolean Function Manipulation", IEEE
-- Transactions on Computers C-35 (1986), for the sizes of functions; De Micheli, "Synthesis and
-- Optimization of Digital Circuits", chapter 7, for rows as products of literals.
use Rattle.std.specs.Prelude.{ℕ, Bool, true, false, Option, Some, None, List, [], ◌∷◌, ◌⊎◌}
use Rattle.cover_min.specs.Refusals.{Refusals}
use Rattle.func_core.specs.Trees.{BooleanFunction, constant, complement, conjunction}
use Rattle.func_core.specs.Numbers.{IsBig}

-- the function of a literal of an input
abbrev pub literal_of : BooleanFunction → Bool → BooleanFunction
literal_of input true = input
literal_of input false = complement input

-- the conjunction of a function and the literal of an input, if there is one
abbrev pub with_literal : BooleanFunction → BooleanFunction → Option Bool → BooleanFunction
with_literal f input None = f
with_literal f input (Some bit) = conjunction f (literal_of input bit)

-- the conjunction of a function and the literals of a row, whose columns are the inputs
abbrev pub product : BooleanFunction → List BooleanFunction → List (Option Bool) → BooleanFunction
product f [] row = f
product f (input ∷ inputs) [] = f
product f (input ∷ inputs) (place ∷ row) = product (with_literal f input place) inputs row

-- a function outside the product of a row
abbrev pub without : BooleanFunction → List BooleanFunction → List (Option Bool) → BooleanFunction
without f inputs row = conjunction f (complement (product (constant true) inputs row))

-- a function outside the products of all of some rows
abbrev pub outside : BooleanFunction → List BooleanFunction → List (List (Option Bool))
    → BooleanFunction
outside f inputs [] = f
outside f inputs (row ∷ rows) = outside (without f inputs row) inputs rows

-- the conjunction of a function and a literal, if there is one, is too big
abbrev pub IsBigWith : ℕ → BooleanFunction → BooleanFunction → Option Bool → Type 0
IsBigWith limit f input None = ⊥
IsBigWith limit f input (Some bit) = IsBig limit (conjunction f (literal_of input bit))

-- one of the functions is too big that are built while a function is multiplied by the literals of
-- a row
abbrev pub IsBigAlong : ℕ → BooleanFunction → List BooleanFunction → List (Option Bool) → Type 0
IsBigAlong limit f [] row = ⊥
IsBigAlong limit f (input ∷ inputs) [] = ⊥
IsBigAlong limit f (input ∷ inputs) (place ∷ row) =
    IsBigWith limit f input place ⊎ IsBigAlong limit (with_literal f input place) inputs row

-- one of the functions is too big that are built while a row is removed from a function: a part of
-- its product, from the constant 1 on, or what is left
abbrev pub IsBigWithout : ℕ → BooleanFunction → List BooleanFunction → List (Option Bool) → Type 0
IsBigWithout limit f inputs row =
    IsBigAlong limit (constant true) inputs row ⊎ IsBig limit (without f inputs row)

-- one of the functions is too big that are built while rows are removed from a function
abbrev pub IsBigOutside : ℕ → BooleanFunction → List BooleanFunction → List (List (Option Bool))
    → Type 0
IsBigOutside limit f inputs [] = ⊥
IsBigOutside limit f inputs (row ∷ rows) =
    IsBigWithout limit f inputs row ⊎ IsBigOutside limit (without f inputs row) inputs rows

-- one of the functions is too big that are built while a function is multiplied by the literals of
-- a row, and then other rows are removed from the product
abbrev pub IsBigBeside : ℕ → BooleanFunction → List BooleanFunction → List (Option Bool)
    → List (List (Option Bool)) → Type 0
IsBigBeside limit f inputs row others =
    IsBigAlong limit f inputs row ⊎ IsBigOutside limit (product f inputs row) inputs others

-- the tests that are refused: of a row, with or without other rows, if a function built for it is
-- too big, from the function of where a point must be on, or of where it must be off
abbrev pub refusals_of : ℕ → List BooleanFunction → BooleanFunction → BooleanFunction → Refusals
refusals_of limit inputs on off =
    record { off = IsBigAlong limit off inputs; own = IsBigBeside limit on inputs }

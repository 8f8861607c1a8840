-- How the code computes: a function as the table of its values at all points, and its rows from the
-- table's halves. No public clause needs these definitions; the lemmas of proofs/ say that they
-- agree with `Functions` and Shannon's expansion. Source: Brayton, Hachtel, McMullen,
-- Sangiovanni-Vincentelli, "Logic Minimization Algorithms for VLSI Synthesis" (Shannon expansion).
use Rattle.std.specs.Prelude.{ℕ, zero, suc, ◌/◌, Bool, true, false, not, ◌&&◌, ◌||◌, if◌then◌else◌, List, [], ◌∷◌, ◌++◌, map, length, take, drop, slice_index_or}
use Rattle.std.specs.Cmp.Lexicographic.{pointwise}
use Rattle.circuit_model.specs.declared.circuit.Tri.{Tri}
use Rattle.circuit_model.specs.declared.circuit.Tri.TheVariants.{Zero, One, Free}
use Rattle.cover_ops.specs.Shannon.{bits_equal}
use Rattle.genlib_expr.specs.declared.node.Node.{Node}
use Rattle.genlib_expr.specs.declared.node.Node.TheVariants.{Constant, Pin, Not, And, Or}

-- the values of a function at all points of a width: first those with 0 in the first column, then
-- those with 1 there
unfoldable pub values : ℕ → (List Bool → Bool) → List Bool
values zero f = f [] ∷ []
values (suc width) f = values width (λ point. f (false ∷ point)) ++ values width (λ point. f (true ∷ point))

-- a list twice
abbrev pub twice : List Bool → List Bool
twice bits = bits ++ bits

-- the table of a constant
unfoldable pub constant_values : ℕ → Bool → List Bool
constant_values zero bit = bit ∷ []
constant_values (suc width) bit = twice (constant_values width bit)

-- the table of a pin
unfoldable pub pin_values : ℕ → ℕ → List Bool
pin_values zero place = false ∷ []
pin_values (suc width) zero = constant_values width false ++ constant_values width true
pin_values (suc width) (suc place) = twice (pin_values width place)

-- the products and the sums of the bits of two tables
unfoldable pub products : List Bool → List Bool → List Bool
products [] right = []
products (bit ∷ left) [] = []
products (bit ∷ left) (other ∷ right) = (bit && other) ∷ products left right

unfoldable pub sums : List Bool → List Bool → List Bool
sums [] right = []
sums (bit ∷ left) [] = []
sums (bit ∷ left) (other ∷ right) = (bit || other) ∷ sums left right

-- the complements of the bits of a table
abbrev pub complements : List Bool → List Bool
complements bits = map not bits

-- the stack of tables, the newest first, with the newest complemented
unfoldable pub complemented : List (List Bool) → List (List Bool)
complemented [] = []
complemented (table ∷ tables) = complements table ∷ tables

-- with the newest two multiplied; and with the newest two added
unfoldable pub multiplied : List (List Bool) → List (List Bool)
multiplied (right ∷ left ∷ tables) = products left right ∷ tables
multiplied (table ∷ []) = []
multiplied [] = []

unfoldable pub added : List (List Bool) → List (List Bool)
added (right ∷ left ∷ tables) = sums left right ∷ tables
added (table ∷ []) = []
added [] = []

-- the stack of tables after one more node
unfoldable pub tables_with : ℕ → List (List Bool) → Node → List (List Bool)
tables_with width tables (Constant bit) = constant_values width bit ∷ tables
tables_with width tables (Pin place) = pin_values width place ∷ tables
tables_with width tables Not = complemented tables
tables_with width tables And = multiplied tables
tables_with width tables Or = added tables

-- the newest table; that of 0 if there is none
unfoldable pub newest_table : ℕ → List (List Bool) → List Bool
newest_table width [] = constant_values width false
newest_table width (table ∷ tables) = table

-- whether two tables are the same
abbrev pub are_same : List Bool → List Bool → Bool
are_same left right = pointwise bits_equal left right

-- the halves of a table
abbrev pub low_half : List Bool → List Bool
low_half table = take (length table / 2) table

abbrev pub high_half : List Bool → List Bool
high_half table = drop (length table / 2) table

-- the rows of a table after a front: one where it is 1, none where it is 0; a dash if both halves
-- are the same
unfoldable pub rows_behind : List Tri → ℕ → List Bool → List (List Tri)
rows_behind front zero table = if slice_index_or table 0 false then front ∷ [] else []
rows_behind front (suc width) table =
    if are_same (low_half table) (high_half table)
    then rows_behind (front ++ Free ∷ []) width (low_half table)
    else rows_behind (front ++ Zero ∷ []) width (low_half table) ++ rows_behind (front ++ One ∷ []) width (high_half table)

-- The composition of one table's cover into another's: where the inputs are in the result, its
-- rows, and its value. Source: SIS report UCB/ERL M92/41 (eliminate, collapse); De Micheli,
-- "Synthesis and Optimization of Digital Circuits", chapter 8 (elimination, composition of a node
-- into its readers). The outer cover reads the inner table in column x. Inputs that the outer cover
-- lacks take x's columns, in order.
use Rattle.std.specs.Prelude.{◌≡◌, ◌≢◌, ℕ, ◌+◌, ◌-◌, ◌<◌, suc, ltb, eqb, Bool, true, false, not, ◌||◌, if◌then◌else◌, Option, Some, None, List, [], ◌∷◌, ◌++◌, map, take, drop, replicate, slice_index_or, slice_set, length, ◌⊎◌}
use Rattle.cube_cover.specs.Covers.{Shape, product_of}
use Rattle.cube_cover.specs.Literals.{has_literal, rows_intersect}
use Rattle.cover_ops.specs.Shannon.{bits_equal, list_rows}

-- the number of inputs that the outer cover lacks
unfoldable pub count_new : List (Option ℕ) → ℕ
count_new [] = 0
count_new (None ∷ places) = suc (count_new places)
count_new (Some place ∷ places) = count_new places

-- whether a column is among the entries
unfoldable pub is_entry : ℕ → List (Option ℕ) → Bool
is_entry place [] = false
is_entry place (None ∷ places) = is_entry place places
is_entry place (Some other ∷ places) = eqb place other || is_entry place places

-- the columns among the entries are different, below the width and not x
unfoldable pub AreEntries : ℕ → ℕ → List (Option ℕ) → Type 0
AreEntries width x [] = Unit {0}
AreEntries width x (None ∷ places) = AreEntries width x places
AreEntries width x (Some place ∷ places) = (place < width) × (place ≢ x) × (is_entry place places ≡ false) × AreEntries width x places

-- the column in the result of a column of the outer cover other than x
abbrev pub outer_place : ℕ → ℕ → ℕ → ℕ
outer_place x added place = if ltb place x then place else place + added - 1

-- the column in the result of each input of the inner table, the new ones from `next` on
unfoldable pub targets : ℕ → ℕ → ℕ → List (Option ℕ) → List ℕ
targets x added next [] = []
targets x added next (None ∷ places) = next ∷ targets x added (next + 1) places
targets x added next (Some place ∷ places) = outer_place x added place ∷ targets x added next places

-- all targets are below the width
unfoldable pub AreBelow : ℕ → List ℕ → Type 0
AreBelow width [] = Unit {0}
AreBelow width (target ∷ others) = (target < width) × AreBelow width others

-- an outer row over the inputs of the result: dashes for the new inputs in place of x's column
abbrev pub outer_row : ℕ → ℕ → List (Option Bool) → List (Option Bool)
outer_row x added row = take x row ++ replicate added None ++ drop (suc x) row

-- an inner row over the inputs of the result: each literal in its input's target column
unfoldable pub inner_row : List (Option Bool) → List ℕ → List (Option Bool) → List (Option Bool)
inner_row row [] literals = row
inner_row row (target ∷ others) [] = row
inner_row row (target ∷ others) (literal ∷ literals) = inner_row (slice_set row target literal) others literals

-- the products of a row with rows, in order; empty products are dropped
unfoldable pub row_products : List (Option Bool) → List (List (Option Bool)) → List (List (Option Bool))
row_products row [] = []
row_products row (other ∷ others) = if rows_intersect row other then product_of row other ∷ row_products row others else row_products row others

-- the rows that a row becomes, by its literal of x
abbrev pub composed_row : Option Bool → List (Option Bool) → List (List (Option Bool)) → List (List (Option Bool)) → List (List (Option Bool))
composed_row None row on off = row ∷ []
composed_row (Some true) row on off = row_products row on
composed_row (Some false) row on off = row_products row off

-- the rows that all outer rows become, in order
unfoldable pub composed_rows : ℕ → ℕ → List (List (Option Bool)) → List (List (Option Bool)) → List (List (Option Bool)) → List (List (Option Bool))
composed_rows x added on off [] = []
composed_rows x added on off (row ∷ rows) = composed_row (slice_index_or row x None) (outer_row x added row) on off ++ composed_rows x added on off rows

-- the inner cover for a value: its own rows if they give that value, else its list for that value
abbrev pub cover_for : Shape → Bool → Bool → List (List (Option Bool))
cover_for inner phase bit = if bits_equal bit phase then inner.rows else list_rows inner.width false inner.rows

-- some row has the literal of a bit in column x, so the cover for that bit is needed
unfoldable pub asks : ℕ → Bool → List (List (Option Bool)) → Bool
asks x bit [] = false
asks x bit (row ∷ rows) = has_literal (slice_index_or row x None) bit || asks x bit rows

-- the inner rows for a value, over the inputs of a result of the width
abbrev pub placed_rows : ℕ → List ℕ → List (List (Option Bool)) → List (List (Option Bool))
placed_rows width places rows = map (λ row. inner_row (replicate width None) places row) rows

-- the outer cover with the inner table composed in place of its input x
abbrev pub composition : Shape → ℕ → Shape → Bool → List (Option ℕ) → Shape
composition outer x inner phase places =
    let added = count_new places in
    let width = outer.width + added - 1 in
    let at = targets x added x places in
    record {
      width = width;
      rows = composed_rows x added (placed_rows width at (cover_for inner phase true)) (placed_rows width at (cover_for inner phase false)) outer.rows;
    }

-- the inner table's point within a point of the result
abbrev pub inner_point : List ℕ → List Bool → List Bool
inner_point places point = map (λ place. slice_index_or point place false) places

-- the outer cover's point, with the inner table's value for x
abbrev pub outer_point : ℕ → ℕ → Bool → List Bool → List Bool
outer_point x added value point = take x point ++ value ∷ drop (x + added) point

-- a list that is needed has more rows than the limit of lists, or the result more than its own
-- limit
abbrev pub IsTooLong : ℕ → ℕ → Shape → ℕ → Shape → Bool → List (Option ℕ) → Type 0
IsTooLong list_limit limit outer x inner phase places =
    ((asks x (not phase) outer.rows ≡ true) × (list_limit < length (list_rows inner.width false inner.rows))) ⊎ (limit < length (composition outer x inner phase places).rows)

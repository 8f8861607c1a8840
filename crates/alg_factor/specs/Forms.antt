-- Factored forms of a list of rows, by the literal that occurs in most rows. Source: Brayton,
-- Rudell, Sangiovanni-Vincentelli, Wang, "MIS: A Multiple-Level Logic Optimization System" (literal
-- factoring, 1987); De Micheli, "Synthesis and Optimization of Digital Circuits", chapter 8. Rows
-- are those of sis_base: some bit for a literal (true for the positive one), none for a dash.
use Rattle.std.specs.Prelude.{◌≡◌, ℕ, ◌+◌, ◌*◌, ◌<◌, ◌≤◌, Bool, true, false, not, if◌then◌else◌, Option, Some, None, List, [], ◌∷◌, ◌++◌, map, slice_index_or, slice_set}
use Rattle.sis_base.specs.Rows.{HasWidth}
use Rattle.cube_cover.specs.Literals.{has_literal, literal_occurrences, cover_literals}

-- a form: a sum of rows; or a literal, given by its column and its bit, times a form, plus a form
-- (the sum of no rows if nothing is added)
pub data Form : Type 0 where
  Sum : List (List (Option Bool)) → Form
  Split : ℕ → Bool → Form → Form → Form

-- the rows that have a literal, in order, each without it
unfoldable pub with_literal : ℕ → Bool → List (List (Option Bool)) → List (List (Option Bool))
with_literal place bit [] = []
with_literal place bit (row ∷ rows) =
    if has_literal (slice_index_or row place None) bit then slice_set row place None ∷ with_literal place bit rows else with_literal place bit rows

-- the rows that do not have a literal, in order
unfoldable pub no_literal : ℕ → Bool → List (List (Option Bool)) → List (List (Option Bool))
no_literal place bit [] = []
no_literal place bit (row ∷ rows) =
    if has_literal (slice_index_or row place None) bit then no_literal place bit rows else row ∷ no_literal place bit rows

-- the order of literals: by column, then 0 before 1
abbrev pub rank : ℕ → Bool → ℕ
rank place false = 2 * place
rank place true = 2 * place + 1

-- the literal that occurs in most rows, and in at least two; of those in as many, the first
pub record IsChosen (place : ℕ) (bit : Bool) (rows : List (List (Option Bool))) : Type 0 where
  pub two : 2 ≤ literal_occurrences place bit rows
  pub most : (i : ℕ) (b : Bool) → literal_occurrences i b rows ≤ literal_occurrences place bit rows
  pub first : (i : ℕ) (b : Bool) → rank i b < rank place bit → literal_occurrences i b rows < literal_occurrences place bit rows

-- no literal occurs in two rows
abbrev pub NoneShared : List (List (Option Bool)) → Type 0
NoneShared rows = (place : ℕ) (bit : Bool) → literal_occurrences place bit rows < 2

-- some literal occurs in two rows
abbrev pub SomeShared : List (List (Option Bool)) → Type 0
SomeShared rows = (place : ℕ) × (bit : Bool) × (2 ≤ literal_occurrences place bit rows)

-- the factored form of rows: their sum if no literal occurs in two of them; else the chosen literal
-- times the factored form of the rows that have it, without it, plus the factored form of the
-- others
unfoldable pub IsFactored : List (List (Option Bool)) → Form → Type 0
IsFactored rows (Sum sum) = (sum ≡ rows) × NoneShared rows
IsFactored rows (Split place bit quotient rest) =
    IsChosen place bit rows × IsFactored (with_literal place bit rows) quotient × IsFactored (no_literal place bit rows) rest

-- rows, each with one literal more
abbrev pub put_literal : ℕ → Bool → List (List (Option Bool)) → List (List (Option Bool))
put_literal place bit rows = map (λ row. slice_set row place (Some bit)) rows

-- a form multiplied out
unfoldable pub expansion_of : Form → List (List (Option Bool))
expansion_of (Sum rows) = rows
expansion_of (Split place bit quotient rest) = put_literal place bit (expansion_of quotient) ++ expansion_of rest

-- the number of literals of a form
unfoldable pub form_literals : Form → ℕ
form_literals (Sum rows) = cover_literals rows
form_literals (Split place bit quotient rest) = 1 + form_literals quotient + form_literals rest

-- a form over some number of inputs: each row has a column for each, and each literal is of one of
-- them
unfoldable pub IsOver : ℕ → Form → Type 0
IsOver width (Sum rows) = HasWidth width rows
IsOver width (Split place bit quotient rest) = (place < width) × IsOver width quotient × IsOver width rest

-- what contracts see of a factored form: the number of inputs, and the form
pub record Factors : Type 0 where
  pub width : ℕ
  pub form : Form

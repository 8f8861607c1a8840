-- Which tables are to be decomposed, and how: by the literal that occurs in most rows, or until
-- each table is one product or one sum within given bounds.
-- Source: the SIS report (UCB/ERL M92/41), `decomp` and `tech_decomp`; Brayton, Rudell,
-- Sangiovanni-Vincentelli and Wang, "MIS: A Multiple-Level Logic Optimization System" (1987), for
-- the literal that is factored out (as in alg_factor).
use Rattle.std.specs.Prelude.{◌≡◌, ℕ, zero, suc, ltb, leb, Bool, true, false, ◌&&◌, ◌||◌, if◌then◌else◌, eqb, Option, Some, None, List, [], ◌∷◌, ◌++◌, map, filter, take, drop, length, replicate, slice_set}
use Rattle.std.specs.List.{list_all, list_any}
use Rattle.circuit_model.specs.declared.circuit.Table.{Table}
use Rattle.cube_cover.specs.Literals.{row_literals, some_dashes}
use Rattle.alg_factor.specs.Forms.{with_literal, no_literal, IsChosen, NoneShared}
use Rattle.net_decomp.specs.Partings.{Parting, rows_of}
use Rattle.net_decomp.specs.declared.rule.Rule.{Rule}
use Rattle.net_decomp.specs.declared.rule.Rule.TheVariants.{Shared, Gates}

-- a row with dashes for new inputs
abbrev pub padded : ℕ → List (Option Bool) → List (Option Bool)
padded added row = row ++ replicate added None

-- a row of dashes, over inputs and then new inputs, of which one has the positive literal
abbrev pub signal_row : ℕ → ℕ → ℕ → List (Option Bool)
signal_row width added number = replicate width None ++ slice_set (replicate added None) number (Some true)

-- the rows with a literal become a table, without it; the first row is then one of the literal and
-- that table's signal, before the others
unfoldable pub literal_parting : ℕ → ℕ → Bool → List (List (Option Bool)) → Parting
literal_parting width place bit rows = record {
  parts = with_literal place bit rows ∷ [];
  rows = slice_set (signal_row width 1 0) place (Some bit) ∷ map (padded 1) (no_literal place bit rows);
}

-- whether a row is a product of two literals or more
abbrev pub is_long : List (Option Bool) → Bool
is_long row = ltb 1 (row_literals row)

-- rows whose long ones are replaced by signals, numbered from a first one on
unfoldable pub with_signals : ℕ → ℕ → ℕ → List (List (Option Bool)) → List (List (Option Bool))
with_signals width added number [] = []
with_signals width added number (row ∷ rows) =
    if is_long row then signal_row width added number ∷ with_signals width added (suc number) rows
    else padded added row ∷ with_signals width added number rows

-- each long row becomes a table
unfoldable pub rows_parting : ℕ → List (List (Option Bool)) → Parting
rows_parting width rows = record {
  parts = map (λ row. row ∷ []) (filter is_long rows);
  rows = with_signals width (length (filter is_long rows)) 0 rows;
}

-- the first literals of a row, so many
unfoldable pub first_literals : ℕ → List (Option Bool) → List (Option Bool)
first_literals count [] = []
first_literals count (None ∷ row) = None ∷ first_literals count row
first_literals zero (Some bit ∷ row) = None ∷ first_literals zero row
first_literals (suc count) (Some bit ∷ row) = Some bit ∷ first_literals count row

-- the literals after them
unfoldable pub later_literals : ℕ → List (Option Bool) → List (Option Bool)
later_literals count [] = []
later_literals count (None ∷ row) = None ∷ later_literals count row
later_literals zero (Some bit ∷ row) = Some bit ∷ later_literals zero row
later_literals (suc count) (Some bit ∷ row) = None ∷ later_literals count row

-- the first literals of each row, so many, become a table, whose signal is the last input, after
-- the literals that are left; this is for a single row
unfoldable pub product_parting : ℕ → List (List (Option Bool)) → Parting
product_parting most rows = record {
  parts = map (first_literals most) rows ∷ [];
  rows = map (λ row. later_literals most row ++ Some true ∷ []) rows;
}

-- the first rows, so many, become a table, whose signal is a row after the others
unfoldable pub sum_parting : ℕ → ℕ → List (List (Option Bool)) → Parting
sum_parting width most rows = record {
  parts = take most rows ∷ [];
  rows = map (padded 1) (drop most rows) ++ signal_row width 1 0 ∷ [];
}

-- whether there is at most one row, of at most `products` literals; or at most `sums` rows, each of
-- one literal
unfoldable pub is_gate : ℕ → ℕ → List (List (Option Bool)) → Bool
is_gate products sums rows =
    (leb (length rows) 1 && list_all (λ row. leb (row_literals row) products) rows)
    || (leb (length rows) sums && list_all (λ row. eqb (row_literals row) 1) rows)

-- how rows that are no gate are decomposed: if a row has no literal, a single such row is left;
-- else, if there are two rows or more and some are long, the long ones become tables; else the
-- first literals of a single row, or the first of several rows, become a table
unfoldable pub gate_parting : ℕ → ℕ → ℕ → List (List (Option Bool)) → Parting
gate_parting products sums width rows =
    if some_dashes rows then record { parts = []; rows = replicate width None ∷ [] }
    else (if ltb 1 (length rows) && list_any is_long rows then rows_parting width rows
    else (if ltb 1 (length rows) then sum_parting width sums rows else product_parting products rows))

-- whether a table is done: no literal occurs in two of its rows; or it is a gate
abbrev pub IsDone : Rule → Table → Type 0
IsDone Shared table = NoneShared (rows_of table)
IsDone (Gates products sums) table = is_gate products sums (rows_of table) ≡ true

-- how a table that is not done is decomposed
abbrev pub IsDecomposable : Rule → Table → Parting → Type 0
IsDecomposable Shared table parting =
    (place : ℕ) × (bit : Bool) × IsChosen place bit (rows_of table) × (parting ≡ literal_parting (length table.inputs) place bit (rows_of table))
IsDecomposable (Gates products sums) table parting =
    (is_gate products sums (rows_of table) ≡ false) × (parting ≡ gate_parting products sums (length table.inputs) (rows_of table))

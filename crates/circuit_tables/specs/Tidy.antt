-- Tidy tables, the normal form of these crates: each input once and with a literal in some row, no
-- row twice. Source: De Micheli, "Synthesis and Optimization of Digital Circuits", chapters 7 and
-- 8: a cover has each cube once, and the support of a table is the inputs of which it has a
-- literal.
use Rattle.std.specs.Prelude.{ℕ, Bool, true, false, not, ◌≡◌, ◌&&◌, List, [], ◌∷◌, map, length, if◌then◌else◌}
use Rattle.std.specs.List.{AllByRecursion, list_any, list_all, filter}
use Rattle.circuit_model.specs.Names.{all_different}
use Rattle.circuit_model.specs.Counts.{is_literal}
use Rattle.circuit_model.specs.Text.{character}
use Rattle.circuit_model.specs.declared.circuit.Tri.{Tri}
use Rattle.circuit_model.specs.declared.circuit.Tri.TheVariants.{Zero, One, Free}
use Rattle.circuit_model.specs.declared.circuit.Table.{Table}
use Rattle.circuit_tables.specs.Folding.{folded, constant_one}

-- each row of a table has a character for each input
abbrev pub IsWide : Table → Type 0
IsWide table = AllByRecursion (λ (row : List Tri). length row ≡ length table.inputs) table.rows

-- whether two characters are equal
abbrev pub same_place : Tri → Tri → Bool
same_place Zero Zero = true
same_place One One = true
same_place Free Free = true
same_place first second = false

-- whether two rows are equal
unfoldable pub same_row : List Tri → List Tri → Bool
same_row [] [] = true
same_row (first ∷ row) (second ∷ other) = same_place first second && same_row row other
same_row row other = false

-- whether no row occurs twice
unfoldable pub rows_differ : List (List Tri) → Bool
rows_differ [] = true
rows_differ (row ∷ rows) = not (list_any (same_row row) rows) && rows_differ rows

-- the text of a row
abbrev pub row_text : List Tri → List ℕ
row_text row = map character row

-- the first character of a row, a dash if there is none
abbrev pub front_place : List Tri → Tri
front_place [] = Free
front_place (place ∷ row) = place

-- a row without its first character
abbrev pub behind_front : List Tri → List Tri
behind_front [] = []
behind_front (place ∷ row) = row

-- for each input, whether it has a literal in some row
unfoldable pub used_places : List (List ℕ) → List (List Tri) → List Bool
used_places [] rows = []
used_places (input ∷ inputs) rows = list_any (λ row. is_literal (front_place row)) rows ∷ used_places inputs (map behind_front rows)

-- whether there is a row or the phase is 1
abbrev pub some_row_or_phase_one : List (List Tri) → Bool → Bool
some_row_or_phase_one [] phase = phase
some_row_or_phase_one (row ∷ rows) phase = true

-- whether a table is tidy: each input once, each with a literal; no row twice; phase 1 where there
-- is no row
unfoldable pub is_tidy : Table → Bool
is_tidy table =
    all_different table.inputs && list_all (λ used. used) (used_places table.inputs table.rows) && rows_differ table.rows
    && some_row_or_phase_one table.rows table.phase

-- the distinct rows, in the order of their first appearance
unfoldable pub rows_once : List (List Tri) → List (List Tri)
rows_once [] = []
rows_once (row ∷ rows) = row ∷ filter (λ other. not (same_row row other)) (rows_once rows)

-- the items that are marked
unfoldable pub chosen : {A : Type 0} → List Bool → List A → List A
chosen [] items = []
chosen (mark ∷ marks) [] = []
chosen (true ∷ marks) (item ∷ items) = item ∷ chosen marks items
chosen (false ∷ marks) (item ∷ items) = chosen marks items

-- a table without the inputs that have no literal
unfoldable pub narrowed : Table → Table
narrowed table = record table {
  inputs = chosen (used_places table.inputs table.rows) table.inputs;
  rows = map (chosen (used_places table.inputs table.rows)) table.rows;
}

-- the table, or the constant 1 if the phase is 0 and it has lost all its rows
unfoldable pub with_phase_one : Table → Table
with_phase_one table = if some_row_or_phase_one table.rows table.phase then table else constant_one table.output

-- a table without the rows that equal an earlier one
abbrev pub with_rows_once : Table → Table
with_rows_once table = record table { rows = rows_once table.rows }

-- repeated inputs are folded, then rows that equal an earlier one are removed, then inputs without
-- a literal; if the phase is 0 and no row is left, it is the constant 1
unfoldable pub tidied : Table → Table
tidied table = narrowed (with_rows_once (with_phase_one (folded table)))

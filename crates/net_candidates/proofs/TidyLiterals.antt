-- The literals of a table in normal form: those of its rows, each once.
use Rattle.std.proofs.Common.{◌≡◌, ℕ, ◌+◌, suc, Bool, true, false, not, cond, Option, Some, None, List, [], ◌∷◌, map, filter, length, refl, sym, ap, ◌∙◌, subst, arith}
use Rattle.std.specs.List.{sum_by, list_any}
use Rattle.std.proofs.lemmas.Bool.{or_parts}
use Rattle.std.proofs.lemmas.List.Sums.{sum_by-cons}
use Rattle.circuit_model.specs.Counts.{is_literal, literals_of_row, literals_of_table}
use Rattle.circuit_model.specs.Names.{all_different}
use Rattle.circuit_model.specs.declared.circuit.Tri.{Tri}
use Rattle.circuit_model.specs.declared.circuit.Table.{Table}
use Rattle.cube_cover.specs.Literals.{row_literals}
use Rattle.alg_div.specs.Cubes.{row_eq}
use Rattle.alg_div.proofs.Lists.{same_from_eq, eq_from_same}
use Rattle.net_core.specs.Tables.{character_of, characters_of, places_of, HasCharacters}
use Rattle.net_core.proofs.Rows.{places_back, all_characters_back}
use Rattle.alg_tables.specs.Dividing.{firsts}
use Rattle.circuit_tables.specs.Tidy.{IsWide, front_place, behind_front, used_places, same_row, rows_once, chosen, narrowed, some_row_or_phase_one, tidied}
use Rattle.circuit_tables.proofs.Tidied.{row_same, row_itself, once_all, chosen_nil, tidied_is}
use Rattle.net_candidates.proofs.Sums.{sum_mapped, sum_where}
use Rattle.net_candidates.proofs.Products.{literals_in_all}

-- ---- characters and columns

-- 1 for a literal, else 0
counted : Tri → ℕ
counted place = cond {A = ℕ} (is_literal place) 1 0

row_cons : (place : Tri) (row : List Tri) → literals_of_row (place ∷ row) ≡ counted place + literals_of_row row
unfolding literals_of_row counted
row_cons place row = sum_by-cons counted place row

row_none : literals_of_row [] ≡ 0
unfolding literals_of_row
row_none = refl

pub characters_literals : (row : List (Option Bool)) → literals_of_row (characters_of row) ≡ row_literals row
unfolding row_literals counted
characters_literals [] = row_none
characters_literals (None ∷ row) = row_cons (character_of None) (characters_of row) ∙ ap (λ (n : ℕ). 0 + n) (characters_literals row)
characters_literals (Some true ∷ row) = row_cons (character_of (Some true)) (characters_of row) ∙ ap (λ (n : ℕ). 1 + n) (characters_literals row)
characters_literals (Some false ∷ row) = row_cons (character_of (Some false)) (characters_of row) ∙ ap (λ (n : ℕ). 1 + n) (characters_literals row)

pub all_characters_literals : (rows : List (List (Option Bool))) → sum_by literals_of_row (map characters_of rows) ≡ literals_in_all rows
all_characters_literals rows = sum_mapped literals_of_row characters_of rows ∙ sum_where (λ row. literals_of_row (characters_of row)) row_literals rows characters_literals

pub table_literals : (table : Table) → literals_of_table table ≡ literals_in_all (map places_of table.rows)
unfolding literals_of_table
table_literals table = ap (sum_by literals_of_row) (sym (all_characters_back table.rows)) ∙ all_characters_literals (map places_of table.rows)

-- ---- inputs without a literal

-- 1 if the first character is a literal, else 0
front_count : List Tri → ℕ
front_count row = counted (front_place row)

front_behind : (rows : List (List Tri)) → sum_by literals_of_row rows ≡ sum_by front_count rows + sum_by literals_of_row (map behind_front rows)
unfolding front_count counted
front_behind [] = refl
front_behind (row ∷ rows) =
    let rest : sum_by literals_of_row rows ≡ sum_by front_count rows + sum_by literals_of_row (map behind_front rows) = front_behind rows in
    omega (arith, rest, first row, sum_by-cons literals_of_row row rows, sum_by-cons front_count row rows, sum_by-cons literals_of_row (behind_front row) (map behind_front rows))
  where
    first : (row : List Tri) → literals_of_row row ≡ front_count row + literals_of_row (behind_front row)
    first [] = let z : literals_of_row [] ≡ 0 + literals_of_row [] = omega arith in z
    first (place ∷ row) = row_cons place row

chosen_row : (mark : Bool) (marks : List Bool) (row : List Tri) → (mark ≡ false → is_literal (front_place row) ≡ false)
    → literals_of_row (chosen (mark ∷ marks) row) ≡ front_count row + literals_of_row (chosen marks (behind_front row))
unfolding chosen front_count counted
chosen_row mark marks [] h = let z : literals_of_row [] ≡ 0 + literals_of_row [] = omega arith in z ∙ ap (λ (row : List Tri). 0 + literals_of_row row) (sym (chosen_nil marks))
chosen_row true marks (place ∷ row) h = row_cons place (chosen marks row)
chosen_row false marks (place ∷ row) h =
    let z : literals_of_row (chosen marks row) ≡ 0 + literals_of_row (chosen marks row) = omega arith in
    z ∙ ap (λ (b : Bool). cond {A = ℕ} b 1 0 + literals_of_row (chosen marks row)) (sym (h refl))

chosen_front : (mark : Bool) (marks : List Bool) (rows : List (List Tri)) → (mark ≡ false → list_any (λ (row : List Tri). is_literal (front_place row)) rows ≡ false)
    → sum_by literals_of_row (map (chosen (mark ∷ marks)) rows) ≡ sum_by front_count rows + sum_by literals_of_row (map (chosen marks) (map behind_front rows))
chosen_front mark marks [] h = refl
chosen_front mark marks (row ∷ rows) h =
    let rest : sum_by literals_of_row (map (chosen (mark ∷ marks)) rows) ≡ sum_by front_count rows + sum_by literals_of_row (map (chosen marks) (map behind_front rows)) =
    chosen_front mark marks rows (λ e. (or_parts (is_literal (front_place row)) (list_any (λ (other : List Tri). is_literal (front_place other)) rows) (h e)).1) in
    let first = chosen_row mark marks row (λ e. (or_parts (is_literal (front_place row)) (list_any (λ (other : List Tri). is_literal (front_place other)) rows) (h e)).0) in
    omega (arith, rest, first, sum_by-cons literals_of_row (chosen (mark ∷ marks) row) (map (chosen (mark ∷ marks)) rows), sum_by-cons front_count row rows, sum_by-cons literals_of_row (chosen marks (behind_front row)) (map (chosen marks) (map behind_front rows)))

behind_wide : (width : ℕ) (rows : List (List Tri)) → HasCharacters (suc width) rows → HasCharacters width (map behind_front rows)
behind_wide width [] h = tt
behind_wide width ([] ∷ rows) h = absurd (omega (arith, h.0))
behind_wide width ((place ∷ row) ∷ rows) h = (omega (arith, h.0), behind_wide width rows h.1)

no_places : (rows : List (List Tri)) → HasCharacters 0 rows → sum_by literals_of_row (map (chosen []) rows) ≡ sum_by literals_of_row rows
unfolding chosen
no_places [] h = refl
no_places ([] ∷ rows) h = sum_by-cons literals_of_row [] (map (chosen []) rows) ∙ (ap (λ (n : ℕ). literals_of_row [] + n) (no_places rows h.1) ∙ sym (sum_by-cons literals_of_row [] rows))
no_places ((place ∷ row) ∷ rows) h = absurd (omega (arith, h.0))

pub used_literals : (inputs : List (List ℕ)) (rows : List (List Tri)) → HasCharacters (length inputs) rows → sum_by literals_of_row (map (chosen (used_places inputs rows)) rows) ≡ sum_by literals_of_row rows
unfolding used_places
used_literals [] rows wide = no_places rows wide
used_literals (input ∷ inputs) rows wide =
    chosen_front (list_any (λ (row : List Tri). is_literal (front_place row)) rows) (used_places inputs (map behind_front rows)) rows (λ e. e)
    ∙ (ap (λ (n : ℕ). sum_by front_count rows + n) (used_literals inputs (map behind_front rows) (behind_wide (length inputs) rows wide)) ∙ sym (front_behind rows))

-- ---- rows once

same_test : (one other : Bool) → (one ≡ true → other ≡ true) → (other ≡ true → one ≡ true) → one ≡ other
same_test true other f g = sym (f refl)
same_test false true f g = g refl
same_test false false f g = refl

same_characters : (row other : List (Option Bool)) → same_row (characters_of row) (characters_of other) ≡ row_eq row other
same_characters row other =
    same_test (same_row (characters_of row) (characters_of other)) (row_eq row other)
    (λ h. eq_from_same row other (sym (places_back row) ∙ (ap places_of (row_same (characters_of row) (characters_of other) h) ∙ places_back other)))
    (λ h. subst (λ (x : List (Option Bool)). same_row (characters_of row) (characters_of x) ≡ true) (same_from_eq row other h) (row_itself (characters_of row)))

filter_characters : (row : List (Option Bool)) (rows : List (List (Option Bool)))
    → filter (λ other. not (same_row (characters_of row) other)) (map characters_of rows) ≡ map characters_of (filter (λ other. not (row_eq row other)) rows)
filter_characters row [] = refl
filter_characters row (first ∷ rows) =
    ap (λ (b : Bool). cond (not b) (characters_of first ∷ filter (λ other. not (same_row (characters_of row) other)) (map characters_of rows)) (filter (λ other. not (same_row (characters_of row) other)) (map characters_of rows))) (same_characters row first)
    ∙ cases (row_eq row first) (filter_characters row rows)
  where
    cases : (b : Bool) → filter (λ other. not (same_row (characters_of row) other)) (map characters_of rows) ≡ map characters_of (filter (λ other. not (row_eq row other)) rows)
        → cond (not b) (characters_of first ∷ filter (λ other. not (same_row (characters_of row) other)) (map characters_of rows)) (filter (λ other. not (same_row (characters_of row) other)) (map characters_of rows))
        ≡ map characters_of (cond (not b) (first ∷ filter (λ other. not (row_eq row other)) rows) (filter (λ other. not (row_eq row other)) rows))
    cases true rest = rest
    cases false rest = ap (λ (xs : List (List Tri)). characters_of first ∷ xs) rest

pub once_characters : (rows : List (List (Option Bool))) → rows_once (map characters_of rows) ≡ map characters_of (firsts rows)
unfolding rows_once firsts
once_characters [] = refl
once_characters (row ∷ rows) =
    ap (λ (xs : List (List Tri)). characters_of row ∷ xs)
    (ap (filter (λ other. not (same_row (characters_of row) other))) (once_characters rows) ∙ filter_characters row (firsts rows))

-- ---- a table in normal form

-- a table that lists each input once, and has a row or phase 1
pub tidied_literals : (table : Table) → IsWide table → all_different table.inputs ≡ true → some_row_or_phase_one table.rows table.phase ≡ true
    → literals_of_table (tidied table) ≡ literals_in_all (firsts (map places_of table.rows))
unfolding literals_of_table narrowed
tidied_literals table wide once some =
    ap literals_of_table (tidied_is table once some)
    ∙ (used_literals table.inputs (rows_once table.rows) (once_all (λ (row : List Tri). length row ≡ length table.inputs) table.rows wide)
    ∙ (ap (λ (rows : List (List Tri)). sum_by literals_of_row (rows_once rows)) (sym (all_characters_back table.rows))
    ∙ (ap (sum_by literals_of_row) (once_characters (map places_of table.rows)) ∙ all_characters_literals (firsts (map places_of table.rows)))))

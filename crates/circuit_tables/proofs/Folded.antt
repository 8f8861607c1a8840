-- Properties of folded tables.
use Rattle.std.specs.Prelude.{◌≡◌, ℕ, zero, suc, ◌≤◌, Bool, true, false, not, ◌&&◌, Option, Some, None, List, [], ◌∷◌, map, length, find, bytes_eq, if◌then◌else◌}
use Rattle.std.specs.List.{AllByRecursion, filter_map}
use Rattle.std.specs.Option.{option_map}
use Rattle.std.proofs.Common.{refl, sym, subst, ◌∙◌, ap, arith, eqb-true, ◌==◌}
use Rattle.std.proofs.lemmas.List.{nil_from_length}
use Rattle.sis_base.specs.Rows.{phase_value, some_matches, matches, value_by_phase}
use Rattle.circuit_model.specs.Names.{has, all_different}
use Rattle.circuit_model.specs.Values.{literal_of, table_value, driver}
use Rattle.circuit_model.specs.Soundness.{IsShaped, IsAcyclic, Leads, outputs_of}
use Rattle.circuit_model.specs.declared.circuit.Tri.{Tri}
use Rattle.circuit_model.specs.declared.circuit.Table.{Table}
use Rattle.circuit_tables.specs.Folding.{each_once, folded_rows, constant_one, with_rows, folded}
use Rattle.circuit_tables.specs.Listing.{places_of, merge_row, dashes_of, merged_rows}
use Rattle.circuit_tables.proofs.Buffer.{rows_merged}
use Rattle.circuit_tables.proofs.Once.{has-each_once, different-each_once, length-each_once, each_once-different, and_left, and_right}
use Rattle.circuit_tables.proofs.Merging.{folded_rows_agree, widths_folded, fewer_rows}

pub folded_same : (table : Table) → all_different table.inputs ≡ true → folded table ≡ table
unfolding folded
folded_same table h = rw h refl

-- a table that is folded is the table itself, or the table over other rows
folds : (P : Table → Type 0) (table : Table) → (all_different table.inputs ≡ true → P table) → P (with_rows table (folded_rows table.inputs table.rows)) → P (folded table)
unfolding folded
folds P table same other = cases (all_different table.inputs) refl
  where
    cases : (t : Bool) → all_different table.inputs ≡ t → P (if t then table else with_rows table (folded_rows table.inputs table.rows))
    cases true e = same e
    cases false e = other

-- over other rows a table has its inputs once and these rows; or it is the constant 1, instead of a
-- table of phase 0 without rows
over : (P : Table → Type 0) (table : Table) (rows : List (List Tri)) → P (record table { inputs = each_once table.inputs; rows = rows })
    → (rows ≡ [] → table.phase ≡ false → P (constant_one table.output)) → P (with_rows table rows)
unfolding with_rows
over P table [] kept one = cases table.phase refl
  where
    cases : (t : Bool) → table.phase ≡ t → P (if t then record table { inputs = each_once table.inputs; rows = [] } else constant_one table.output)
    cases true e = kept
    cases false e = one refl e
over P table (row ∷ rows) kept one = kept

-- a table of phase 0 that loses its rows is 1 everywhere
constant : (table : Table) (value : List ℕ → Bool) → folded_rows table.inputs table.rows ≡ [] → table.phase ≡ false
    → table_value table (map value table.inputs) ≡ table_value (constant_one table.output) (map value (constant_one table.output).inputs)
unfolding table_value value_by_phase some_matches matches
constant table value none zero_phase =
    let lost : some_matches (map (map literal_of) table.rows) (map value table.inputs) ≡ false =
    sym (folded_rows_agree table.inputs table.rows value) ∙ rw none refl in
    rw (zero_phase, lost) refl

pub folded_value : (table : Table) (value : List ℕ → Bool) → table_value (folded table) (map value (folded table).inputs) ≡ table_value table (map value table.inputs)
unfolding table_value value_by_phase
folded_value table value =
    folds (λ made. table_value made (map value made.inputs) ≡ table_value table (map value table.inputs)) table (λ h. refl)
    (over (λ made. table_value made (map value made.inputs) ≡ table_value table (map value table.inputs)) table (folded_rows table.inputs table.rows)
    (ap (phase_value table.phase) (folded_rows_agree table.inputs table.rows value))
    (λ none zero_phase. sym (constant table value none zero_phase)))

pub folded_once : (table : Table) → all_different (folded table).inputs ≡ true
unfolding all_different
folded_once table =
    folds (λ made. all_different made.inputs ≡ true) table (λ h. h)
    (over (λ made. all_different made.inputs ≡ true) table (folded_rows table.inputs table.rows) (different-each_once table.inputs) (λ none zero_phase. nothing))
  where
    nothing : all_different [] ≡ true
    nothing = refl

pub folded_shaped : (table : Table) → IsShaped table → IsShaped (folded table)
unfolding with_rows
folded_shaped table shaped =
    folds IsShaped table (λ h. shaped)
    (by (folded_rows table.inputs table.rows) (widths_folded table.inputs table.rows))
  where
    by : (rows : List (List Tri)) → AllByRecursion (λ (row : List Tri). length row ≡ length (each_once table.inputs)) rows → IsShaped (with_rows table rows)
    by [] widths = cases table.phase refl
      where
        cases : (t : Bool) → table.phase ≡ t → IsShaped (if t then record table { inputs = each_once table.inputs; rows = [] } else constant_one table.output)
        cases true e = (tt, λ none. e)
        cases false e = ((refl, tt), λ none. refl)
    by (row ∷ rows) widths = (widths, λ none. absurd (let no : row ∷ rows ≡ [] = none in cc))

pub folded_row_count : (table : Table) → IsShaped table → length (folded table).rows ≤ length table.rows
folded_row_count table shaped =
    folds (λ made. length made.rows ≤ length table.rows) table (λ h. omega arith)
    (over (λ made. length made.rows ≤ length table.rows) table (folded_rows table.inputs table.rows) (fewer_rows table.inputs table.rows)
    (λ none zero_phase. some table.rows shaped.1 zero_phase))
  where
    some : (rows : List (List Tri)) → (rows ≡ [] → table.phase ≡ true) → table.phase ≡ false → 1 ≤ length rows
    some [] one zero_phase = absurd (let yes = one refl in cc)
    some (row ∷ rows) one zero_phase = omega arith

pub folded_input_count : (table : Table) → length (folded table).inputs ≤ length table.inputs
folded_input_count table =
    folds (λ made. length made.inputs ≤ length table.inputs) table (λ h. omega arith)
    (over (λ made. length made.inputs ≤ length table.inputs) table (folded_rows table.inputs table.rows) (length-each_once table.inputs) (λ none zero_phase. omega arith))

pub folded_output : (table : Table) → (folded table).output ≡ table.output
folded_output table =
    folds (λ made. made.output ≡ table.output) table (λ h. refl)
    (over (λ made. made.output ≡ table.output) table (folded_rows table.inputs table.rows) refl (λ none zero_phase. refl))

-- each input of the folded table is one of the table's
pub folded_reads : (table : Table) (name : List ℕ) → has (folded table).inputs name ≡ true → has table.inputs name ≡ true
folded_reads table name =
    folds (λ made. has made.inputs name ≡ true → has table.inputs name ≡ true) table (λ h k. k)
    (over (λ made. has made.inputs name ≡ true → has table.inputs name ≡ true) table (folded_rows table.inputs table.rows)
    (λ k. sym (has-each_once table.inputs name) ∙ k) (λ none zero_phase k. absurd (let no : false ≡ true = k in cc)))

-- and each of the table's is one of the folded table's, where that is no constant
pub folded_keeps_reads : (table : Table) → (folded table ≡ constant_one table.output → ⊥) → (name : List ℕ) → has (folded table).inputs name ≡ has table.inputs name
folded_keeps_reads table other name =
    folds (λ made. (made ≡ constant_one table.output → ⊥) → has made.inputs name ≡ has table.inputs name) table (λ h k. refl)
    (over (λ made. (made ≡ constant_one table.output → ⊥) → has made.inputs name ≡ has table.inputs name) table (folded_rows table.inputs table.rows)
    (λ k. has-each_once table.inputs name) (λ none zero_phase k. absurd (k refl)))
    other

-- tables that are folded

pub folded_outputs : (tables : List Table) → outputs_of (map folded tables) ≡ outputs_of tables
folded_outputs [] = refl
folded_outputs (table ∷ tables) = rw (folded_output table, folded_outputs tables) refl

pub folded_driver : (tables : List Table) (signal : List ℕ) → driver (map folded tables) signal ≡ option_map folded (driver tables signal)
unfolding driver folded
folded_driver [] signal = refl
folded_driver (table ∷ tables) signal = rw (folded_output table) (cases (bytes_eq signal table.output) (folded_driver tables signal))
  where
    cases : (t : Bool) → find (λ (other : Table). bytes_eq signal other.output) (map folded tables) ≡ option_map folded (find (λ (other : Table). bytes_eq signal other.output) tables)
        → (if t then Some (folded table) else find (λ (other : Table). bytes_eq signal other.output) (map folded tables))
        ≡ option_map folded (if t then Some table else find (λ (other : Table). bytes_eq signal other.output) tables)
    cases true rest = refl
    cases false rest = rest

leads_before : (tables : List Table) (steps : ℕ) (from to : List ℕ) → Leads (map folded tables) steps from to → Leads tables steps from to
unfolding Leads
leads_before tables zero from to h = h
leads_before tables (suc steps) from to h =
    by (driver tables from) refl (sym (folded_driver tables from) ∙ h.1) (leads_before tables steps h.2 to h.4)
  where
    by : (found : Option Table) → driver tables from ≡ found → option_map folded found ≡ Some h.0 → Leads tables steps h.2 to → Leads tables (suc steps) from to
    by None e d rest = absurd (let no : None ≡ Some h.0 = d in cc)
    by (Some table) e d rest =
        let same : folded table ≡ h.0 = cc in
        (table, e, h.2, folded_reads table h.2 (subst (λ (made : Table). has made.inputs h.2 ≡ true) (sym same) h.3), rest)

pub folded_acyclic : (tables : List Table) → IsAcyclic tables → IsAcyclic (map folded tables)
unfolding IsAcyclic
folded_acyclic tables acyclic = λ signal steps leads. acyclic signal steps (leads_before tables (suc steps) signal signal leads)

-- the folded table by its parts, if an input is repeated

folded_over : (table : Table) → (length (each_once table.inputs) ≡ length table.inputs → ⊥) → folded table ≡ with_rows table (folded_rows table.inputs table.rows)
unfolding folded
folded_over table again = cases (all_different table.inputs) refl
  where
    cases : (t : Bool) → all_different table.inputs ≡ t → (if t then table else with_rows table (folded_rows table.inputs table.rows)) ≡ with_rows table (folded_rows table.inputs table.rows)
    cases true e = absurd (again (ap length (each_once-different table.inputs e)))
    cases false e = refl

pub folded_constant : (table : Table) (rows : List (List Tri)) → (length (each_once table.inputs) ≡ length table.inputs → ⊥) → rows ≡ folded_rows table.inputs table.rows
    → ((length rows == 0) && not table.phase) ≡ true → constant_one table.output ≡ folded table
unfolding with_rows
folded_constant table rows again r one =
    let none : rows ≡ [] = nil_from_length rows (eqb-true (length rows) 0 (and_left (length rows == 0) (not table.phase) one)) in
    let zero_phase : table.phase ≡ false = turned (table.phase) (and_right (length rows == 0) (not table.phase) one) in
    sym (folded_over table again ∙ rw (← r, none, zero_phase) refl)
  where
    turned : (b : Bool) → not b ≡ true → b ≡ false
    turned true e = sym e
    turned false e = refl

rows_kept : (table : Table) (rows : List (List Tri)) → ((length rows == 0) && not table.phase) ≡ false → with_rows table rows ≡ record table { inputs = each_once table.inputs; rows = rows }
unfolding with_rows
rows_kept table (row ∷ rows) kept = refl
rows_kept table [] kept = cases table.phase refl
  where
    cases : (t : Bool) → table.phase ≡ t → (if t then record table { inputs = each_once table.inputs; rows = [] } else constant_one table.output) ≡ record table { inputs = each_once table.inputs; rows = [] }
    cases true e = refl
    cases false e = absurd (let no : true ≡ false = rw e at kept in cc)

pub folded_kept : (table : Table) (inputs : List (List ℕ)) (rows : List (List Tri)) → (length (each_once table.inputs) ≡ length table.inputs → ⊥) → inputs ≡ each_once table.inputs
    → rows ≡ folded_rows table.inputs table.rows
    → ((length rows == 0) && not table.phase) ≡ false → record table { inputs = inputs; rows = rows } ≡ folded table
folded_kept table inputs rows again i r kept =
    rw i (sym (folded_over table again ∙ (ap (with_rows table) (sym r) ∙ rows_kept table rows kept)))

pub rows_over : (table : Table) (names : List (List ℕ)) (places : List ℕ) (rows made : List (List Tri)) → names ≡ each_once table.inputs → places ≡ places_of table.inputs → rows ≡ table.rows
    → made ≡ filter_map (merge_row (dashes_of names) places) rows → made ≡ folded_rows table.inputs table.rows
unfolding merged_rows
rows_over table names places rows made n p r m = m ∙ (rw (n, p, r) refl ∙ rows_merged table.inputs table.rows)

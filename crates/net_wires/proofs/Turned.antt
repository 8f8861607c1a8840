-- Tables in which a signal has a bit, and tables that read one signal instead of another.
use Rattle.std.proofs.Common.{◌≡◌, ℕ, suc, Bool, true, false, not, ◌&&◌, ◌||◌, if◌then◌else◌, Option, Some, None, option_map, List, [], ◌∷◌, length, map, bytes_eq, refl, sym, ap, ◌∙◌, inl, inr, ◌⊎◌}
use Rattle.std.specs.List.{AllByRecursion, filter_map, cons_option}
use Rattle.std.specs.Option.{option_map_or}
use Rattle.std.proofs.lemmas.Bool.{false≢true, or_cases, or_left, or_right}
use Rattle.std.proofs.lemmas.List.{length-map}
use Rattle.std.proofs.lemmas.Option.{none-some, same_Some}
use Rattle.sis_base.specs.Rows.{agrees, matches, some_matches, value_by_phase, phase_value}
use Rattle.circuit_model.specs.Names.{has, all_different}
use Rattle.circuit_model.specs.Values.{literal_of, table_value, driven_value}
use Rattle.circuit_model.specs.Soundness.{IsShaped}
use Rattle.circuit_model.specs.declared.circuit.Tri.{Tri}
use Rattle.circuit_model.specs.declared.circuit.Tri.TheVariants.{Zero, One, Free}
use Rattle.circuit_model.specs.declared.circuit.Table.{Table}
use Rattle.circuit_laws.proofs.Names.{same_name}
use Rattle.circuit_tables.specs.Tidy.{IsWide, tidied}
use Rattle.circuit_tables.proofs.Tidied.{tidied_value, tidied_output, tidied_reads, tidied_once, tidied_shaped}
use Rattle.net_wires.specs.Rules.{asks_against, row_at_bit, at_bit, renamed, turned_over, row_turned, rewired}

abbrev some_fits : List (List Tri) → List Bool → Bool
some_fits rows point = some_matches (map (map literal_of) rows) point

abbrev fits : List Tri → List Bool → Bool
fits row point = matches (map literal_of row) point

-- rows at a bit

free_rest : (v : Bool) (point : List Bool) (rest : Option (List Tri))
    → option_map_or (λ (made : List Tri). fits made (v ∷ point)) (option_map (λ (r : List Tri). Free ∷ r) rest) false ≡ option_map_or (λ (made : List Tri). fits made point) rest false
unfolding matches
free_rest v point None = refl
free_rest v point (Some r) = refl

kept_rest : (v : Bool) (place : Tri) (point : List Bool) (rest : Option (List Tri))
    → option_map_or (λ (made : List Tri). fits made (v ∷ point)) (option_map (λ (r : List Tri). place ∷ r) rest) false
    ≡ (agrees (literal_of place) v && option_map_or (λ (made : List Tri). fits made point) rest false)
unfolding matches
kept_rest v place point None = none (agrees (literal_of place) v)
  where
    none : (b : Bool) → false ≡ (b && false)
    none true = refl
    none false = refl
kept_rest v place point (Some r) = refl

bit_rest : (bit : Bool) (place : Tri) (v : Bool) → v ≡ bit → (point : List Bool) (rest : Option (List Tri)) (m : Bool)
    → option_map_or (λ (made : List Tri). fits made point) rest false ≡ m
    → option_map_or (λ (made : List Tri). fits made (v ∷ point)) (if asks_against bit place then None else option_map (λ (r : List Tri). Free ∷ r) rest) false ≡ (agrees (literal_of place) v && m)
bit_rest true Zero true e point rest m h = refl
bit_rest true One true e point rest m h = free_rest true point rest ∙ h
bit_rest true Free true e point rest m h = free_rest true point rest ∙ h
bit_rest false Zero false e point rest m h = free_rest false point rest ∙ h
bit_rest false One false e point rest m h = refl
bit_rest false Free false e point rest m h = free_rest false point rest ∙ h
bit_rest true place false e point rest m h = absurd (false≢true e)
bit_rest false place true e point rest m h = absurd (false≢true (sym e))

row_at_value : (name : List ℕ) (bit : Bool) (value : List ℕ → Bool) → value name ≡ bit → (inputs : List (List ℕ)) (row : List Tri)
    → option_map_or (λ (made : List Tri). fits made (map value inputs)) (row_at_bit name bit inputs row) false ≡ fits row (map value inputs)
unfolding row_at_bit matches
row_at_value name bit value is [] row = refl
row_at_value name bit value is (input ∷ inputs) [] = refl
row_at_value name bit value is (input ∷ inputs) (place ∷ row) = cases (bytes_eq name input) refl (row_at_value name bit value is inputs row)
  where
    cases : (t : Bool) → bytes_eq name input ≡ t
        → option_map_or (λ (made : List Tri). fits made (map value inputs)) (row_at_bit name bit inputs row) false ≡ fits row (map value inputs)
        → option_map_or (λ (made : List Tri). fits made (map value (input ∷ inputs)))
        (if t then (if asks_against bit place then None else option_map (λ (rest : List Tri). Free ∷ rest) (row_at_bit name bit inputs row))
        else option_map (λ (rest : List Tri). place ∷ rest) (row_at_bit name bit inputs row)) false
        ≡ (agrees (literal_of place) (value input) && fits row (map value inputs))
    cases true e rest = bit_rest bit place (value input) (ap value (sym (same_name name input e)) ∙ is) (map value inputs) (row_at_bit name bit inputs row) (fits row (map value inputs)) rest
    cases false e rest =
        kept_rest (value input) place (map value inputs) (row_at_bit name bit inputs row) ∙ ap (λ (b : Bool). agrees (literal_of place) (value input) && b) rest

IsLong : ℕ → Option (List Tri) → Type 0
IsLong n rest = (made : List Tri) → rest ≡ Some made → length made ≡ n

longer : (place : Tri) (n : ℕ) (rest : Option (List Tri)) → IsLong n rest → IsLong (suc n) (option_map (λ (r : List Tri). place ∷ r) rest)
unfolding IsLong
longer place n None h made e = absurd (none-some made e)
longer place n (Some r) h made e = sym (ap length (same_Some (place ∷ r) made e)) ∙ ap suc (h r refl)

row_at_long : (name : List ℕ) (bit : Bool) (inputs : List (List ℕ)) (row : List Tri) → IsLong (length row) (row_at_bit name bit inputs row)
unfolding row_at_bit IsLong
row_at_long name bit [] row made e = sym (ap length (same_Some row made e))
row_at_long name bit (input ∷ inputs) [] made e = sym (ap length (same_Some [] made e))
row_at_long name bit (input ∷ inputs) (place ∷ row) made e = cases (bytes_eq name input) (asks_against bit place) (row_at_long name bit inputs row) made e
  where
    cases : (t u : Bool) → IsLong (length row) (row_at_bit name bit inputs row)
        → IsLong (suc (length row)) (if t then (if u then None else option_map (λ (rest : List Tri). Free ∷ rest) (row_at_bit name bit inputs row))
        else option_map (λ (rest : List Tri). place ∷ rest) (row_at_bit name bit inputs row))
    cases true true h some d = absurd (none-some some d)
    cases true false h some d = longer Free (length row) (row_at_bit name bit inputs row) h some d
    cases false u h some d = longer place (length row) (row_at_bit name bit inputs row) h some d

some_filtered : (h : List Tri → Option (List Tri)) (point : List Bool)
    → ((row : List Tri) → option_map_or (λ (made : List Tri). fits made point) (h row) false ≡ fits row point)
    → (rows : List (List Tri)) → some_fits (filter_map h rows) point ≡ some_fits rows point
unfolding some_matches
some_filtered h point each [] = refl
some_filtered h point each (row ∷ rows) = cases (h row) (each row) (some_filtered h point each rows)
  where
    cases : (o : Option (List Tri)) → option_map_or (λ (made : List Tri). fits made point) o false ≡ fits row point → some_fits (filter_map h rows) point ≡ some_fits rows point
        → some_fits (cons_option o (filter_map h rows)) point ≡ (fits row point || some_fits rows point)
    cases None e rest = rest ∙ ap (λ (b : Bool). b || some_fits rows point) e
    cases (Some made) e rest = ap (λ (b : Bool). b || some_fits (filter_map h rows) point) e ∙ ap (λ (b : Bool). fits row point || b) rest

wide_filtered : (h : List Tri → Option (List Tri)) → ((row made : List Tri) → h row ≡ Some made → length made ≡ length row) → (n : ℕ) (rows : List (List Tri))
    → AllByRecursion (λ (row : List Tri). length row ≡ n) rows → AllByRecursion (λ (row : List Tri). length row ≡ n) (filter_map h rows)
wide_filtered h long n [] all = tt
wide_filtered h long n (row ∷ rows) all = cases (h row) (long row) (wide_filtered h long n rows all.1)
  where
    cases : (o : Option (List Tri)) → ((made : List Tri) → o ≡ Some made → length made ≡ length row) → AllByRecursion (λ (r : List Tri). length r ≡ n) (filter_map h rows)
        → AllByRecursion (λ (r : List Tri). length r ≡ n) (cons_option o (filter_map h rows))
    cases None e rest = rest
    cases (Some made) e rest = (e made refl ∙ all.0, rest)

-- tables at a bit

abbrev pub with_rows_at : List ℕ → Bool → Table → Table
with_rows_at name bit table = record table { rows = filter_map (row_at_bit name bit table.inputs) table.rows }

-- a turned table is tidied, or the table as it was
pub at_either : (P : Table → Type 0) (name : List ℕ) (bit : Bool) (table : Table) → (has table.inputs name ≡ true → P (tidied (with_rows_at name bit table))) → (has table.inputs name ≡ false → P table) → P (at_bit name bit table)
unfolding at_bit
at_either P name bit table turned same = cases (has table.inputs name) refl
  where
    cases : (t : Bool) → has table.inputs name ≡ t → P (if t then tidied (with_rows_at name bit table) else table)
    cases true e = turned e
    cases false e = same e

rows_at_value : (name : List ℕ) (bit : Bool) (table : Table) (value : List ℕ → Bool) → value name ≡ bit
    → table_value (with_rows_at name bit table) (map value table.inputs) ≡ table_value table (map value table.inputs)
unfolding table_value value_by_phase
rows_at_value name bit table value is =
    ap (phase_value table.phase) (some_filtered (row_at_bit name bit table.inputs) (map value table.inputs) (row_at_value name bit value is table.inputs) table.rows)

pub at_value : (name : List ℕ) (bit : Bool) (table : Table) (value : List ℕ → Bool) → value name ≡ bit → driven_value (Some (at_bit name bit table)) value ≡ driven_value (Some table) value
at_value name bit table value is =
    at_either (λ (made : Table). driven_value (Some made) value ≡ driven_value (Some table) value) name bit table
    (λ reads. tidied_value (with_rows_at name bit table) value ∙ rows_at_value name bit table value is) (λ none. refl)

pub at_output : (name : List ℕ) (bit : Bool) (table : Table) → (at_bit name bit table).output ≡ table.output
at_output name bit table = at_either (λ (made : Table). made.output ≡ table.output) name bit table (λ reads. tidied_output (with_rows_at name bit table)) (λ none. refl)

pub at_reads : (name : List ℕ) (bit : Bool) (table : Table) (input : List ℕ) → has (at_bit name bit table).inputs input ≡ true → has table.inputs input ≡ true
at_reads name bit table input =
    at_either (λ (made : Table). has made.inputs input ≡ true → has table.inputs input ≡ true) name bit table (λ reads h. tidied_reads (with_rows_at name bit table) input h) (λ none h. h)

pub at_once : (name : List ℕ) (bit : Bool) (table : Table) → all_different table.inputs ≡ true → all_different (at_bit name bit table).inputs ≡ true
at_once name bit table h = at_either (λ (made : Table). all_different made.inputs ≡ true) name bit table (λ reads. tidied_once (with_rows_at name bit table)) (λ none. h)

pub rows_at_wide : (name : List ℕ) (bit : Bool) (table : Table) → IsWide table → IsWide (with_rows_at name bit table)
unfolding IsLong
rows_at_wide name bit table wide = wide_filtered (row_at_bit name bit table.inputs) (λ row made e. row_at_long name bit table.inputs row made e) (length table.inputs) table.rows wide

pub at_shaped : (name : List ℕ) (bit : Bool) (table : Table) → IsShaped table → IsShaped (at_bit name bit table)
at_shaped name bit table shaped = at_either IsShaped name bit table (λ reads. tidied_shaped (with_rows_at name bit table) (rows_at_wide name bit table shaped.0)) (λ none. shaped)

-- complemented rows

pub turned_agrees : (place : Tri) (bit : Bool) → agrees (literal_of (turned_over place)) bit ≡ agrees (literal_of place) (not bit)
turned_agrees Free bit = refl
turned_agrees Zero true = refl
turned_agrees Zero false = refl
turned_agrees One true = refl
turned_agrees One false = refl

turned_value : (from to : List ℕ) (value : List ℕ → Bool) → value from ≡ not (value to) → (inputs : List (List ℕ)) (row : List Tri)
    → fits (row_turned from inputs row) (map value (map (renamed from to) inputs)) ≡ fits row (map value inputs)
unfolding row_turned matches
turned_value from to value is [] row = refl
turned_value from to value is (input ∷ inputs) [] = refl
turned_value from to value is (input ∷ inputs) (place ∷ row) = cases (bytes_eq from input) refl (turned_value from to value is inputs row)
  where
    cases : (t : Bool) → bytes_eq from input ≡ t → fits (row_turned from inputs row) (map value (map (renamed from to) inputs)) ≡ fits row (map value inputs)
        → (agrees (literal_of (if t then turned_over place else place)) (value (if t then to else input)) && fits (row_turned from inputs row) (map value (map (renamed from to) inputs)))
        ≡ (agrees (literal_of place) (value input) && fits row (map value inputs))
    cases true e rest =
        ap (λ (b : Bool). b && fits (row_turned from inputs row) (map value (map (renamed from to) inputs)))
        (turned_agrees place (value to) ∙ ap (agrees (literal_of place)) (sym is ∙ ap value (same_name from input e)))
        ∙ ap (λ (b : Bool). agrees (literal_of place) (value input) && b) rest
    cases false e rest = ap (λ (b : Bool). agrees (literal_of place) (value input) && b) rest

all_turned : (from to : List ℕ) (value : List ℕ → Bool) → value from ≡ not (value to) → (inputs : List (List ℕ)) (rows : List (List Tri))
    → some_fits (map (row_turned from inputs) rows) (map value (map (renamed from to) inputs)) ≡ some_fits rows (map value inputs)
unfolding some_matches
all_turned from to value is inputs [] = refl
all_turned from to value is inputs (row ∷ rows) = rw (turned_value from to value is inputs row, all_turned from to value is inputs rows) refl

renamed_values : (from to : List ℕ) (value : List ℕ → Bool) → value from ≡ value to → (inputs : List (List ℕ)) → map value (map (renamed from to) inputs) ≡ map value inputs
renamed_values from to value is [] = refl
renamed_values from to value is (input ∷ inputs) = cases (bytes_eq from input) refl (renamed_values from to value is inputs)
  where
    cases : (t : Bool) → bytes_eq from input ≡ t → map value (map (renamed from to) inputs) ≡ map value inputs
        → value (if t then to else input) ∷ map value (map (renamed from to) inputs) ≡ value input ∷ map value inputs
    cases true e rest = ap (λ (b : Bool). b ∷ map value (map (renamed from to) inputs)) (sym is ∙ ap value (same_name from input e)) ∙ ap (λ (bs : List Bool). value input ∷ bs) rest
    cases false e rest = ap (λ (bs : List Bool). value input ∷ bs) rest

turned_long : (name : List ℕ) (inputs : List (List ℕ)) (row : List Tri) → length (row_turned name inputs row) ≡ length row
unfolding row_turned
turned_long name [] row = refl
turned_long name (input ∷ inputs) [] = refl
turned_long name (input ∷ inputs) (place ∷ row) = ap suc (turned_long name inputs row)

-- rewired tables

abbrev pub rewires : List ℕ → List ℕ → Bool → Table → Table
rewires from to inverts table = record table {
  inputs = map (renamed from to) table.inputs;
  rows = if inverts then map (row_turned from table.inputs) table.rows else table.rows;
}

pub rewired_either : (P : Table → Type 0) (from to : List ℕ) (inverts : Bool) (table : Table) → (has table.inputs from ≡ true → P (tidied (rewires from to inverts table))) → (has table.inputs from ≡ false → P table) → P (rewired from to inverts table)
unfolding rewired
rewired_either P from to inverts table turned same = cases (has table.inputs from) refl
  where
    cases : (t : Bool) → has table.inputs from ≡ t → P (if t then tidied (rewires from to inverts table) else table)
    cases true e = turned e
    cases false e = same e

rewires_value : (from to : List ℕ) (inverts : Bool) (table : Table) (value : List ℕ → Bool) → value from ≡ (if inverts then not (value to) else value to)
    → table_value (rewires from to inverts table) (map value (map (renamed from to) table.inputs)) ≡ table_value table (map value table.inputs)
unfolding table_value value_by_phase
rewires_value from to true table value is = ap (phase_value table.phase) (all_turned from to value is table.inputs table.rows)
rewires_value from to false table value is = ap (λ (point : List Bool). phase_value table.phase (some_fits table.rows point)) (renamed_values from to value is table.inputs)

pub rewired_value : (from to : List ℕ) (inverts : Bool) (table : Table) (value : List ℕ → Bool) → value from ≡ (if inverts then not (value to) else value to)
    → driven_value (Some (rewired from to inverts table)) value ≡ driven_value (Some table) value
rewired_value from to inverts table value is =
    rewired_either (λ (made : Table). driven_value (Some made) value ≡ driven_value (Some table) value) from to inverts table
    (λ reads. tidied_value (rewires from to inverts table) value ∙ rewires_value from to inverts table value is) (λ none. refl)

pub rewired_output : (from to : List ℕ) (inverts : Bool) (table : Table) → (rewired from to inverts table).output ≡ table.output
rewired_output from to inverts table = rewired_either (λ (made : Table). made.output ≡ table.output) from to inverts table (λ reads. tidied_output (rewires from to inverts table)) (λ none. refl)

renamed_has : (from to : List ℕ) (inputs : List (List ℕ)) (name : List ℕ) → has (map (renamed from to) inputs) name ≡ true → (has inputs name ≡ true) ⊎ (name ≡ to)
renamed_has from to [] name h = absurd (false≢true h)
renamed_has from to (input ∷ inputs) name h = cases (bytes_eq from input) (renamed_has from to inputs name) h
  where
    more : (has inputs name ≡ true) ⊎ (name ≡ to) → (has (input ∷ inputs) name ≡ true) ⊎ (name ≡ to)
    more (inl there) = inl (or_right (bytes_eq name input) (has inputs name) there)
    more (inr is) = inr is

    cases : (t : Bool) → (has (map (renamed from to) inputs) name ≡ true → (has inputs name ≡ true) ⊎ (name ≡ to))
        → (bytes_eq name (if t then to else input) || has (map (renamed from to) inputs) name) ≡ true → (has (input ∷ inputs) name ≡ true) ⊎ (name ≡ to)
    cases true rest k =
        elim (or_cases (bytes_eq name to) (has (map (renamed from to) inputs) name) k) as (λ _. (has (input ∷ inputs) name ≡ true) ⊎ (name ≡ to)) [
          | inl e ↦ inr (same_name name to e)
          | inr m ↦ more (rest m)
        ]
    cases false rest k =
        elim (or_cases (bytes_eq name input) (has (map (renamed from to) inputs) name) k) as (λ _. (has (input ∷ inputs) name ≡ true) ⊎ (name ≡ to)) [
          | inl e ↦ inl (or_left (bytes_eq name input) (has inputs name) e)
          | inr m ↦ more (rest m)
        ]

-- what a rewired table reads: what the table reads, or the signal that replaces another
abbrev pub ReadsOr : List ℕ → List ℕ → Table → List ℕ → Type 0
ReadsOr from to table name = (has table.inputs name ≡ true) ⊎ ((name ≡ to) × (has table.inputs from ≡ true))

pub rewired_reads : (from to : List ℕ) (inverts : Bool) (table : Table) (name : List ℕ) → has (rewired from to inverts table).inputs name ≡ true → ReadsOr from to table name
rewired_reads from to inverts table name =
    rewired_either (λ (made : Table). has made.inputs name ≡ true → ReadsOr from to table name) from to inverts table
    (λ reads h. elim (renamed_has from to table.inputs name (tidied_reads (rewires from to inverts table) name h)) as (λ _. ReadsOr from to table name) [
      | inl there ↦ inl there
      | inr is ↦ inr (is, reads)
    ]) (λ none h. inl h)

pub rewired_once : (from to : List ℕ) (inverts : Bool) (table : Table) → all_different table.inputs ≡ true → all_different (rewired from to inverts table).inputs ≡ true
rewired_once from to inverts table h =
    rewired_either (λ (made : Table). all_different made.inputs ≡ true) from to inverts table (λ reads. tidied_once (rewires from to inverts table)) (λ none. h)

pub rewires_wide : (from to : List ℕ) (inverts : Bool) (table : Table) → IsWide table → IsWide (rewires from to inverts table)
rewires_wide from to inverts table wide = cases inverts
  where
    width : length (map (renamed from to) table.inputs) ≡ length table.inputs
    width = length-map table.inputs (renamed from to)

    same : (rows : List (List Tri)) → AllByRecursion (λ (row : List Tri). length row ≡ length table.inputs) rows
        → AllByRecursion (λ (row : List Tri). length row ≡ length (map (renamed from to) table.inputs)) rows
    same [] all = tt
    same (row ∷ rows) all = (all.0 ∙ sym width, same rows all.1)

    turned : (rows : List (List Tri)) → AllByRecursion (λ (row : List Tri). length row ≡ length table.inputs) rows
        → AllByRecursion (λ (row : List Tri). length row ≡ length (map (renamed from to) table.inputs)) (map (row_turned from table.inputs) rows)
    turned [] all = tt
    turned (row ∷ rows) all = (turned_long from table.inputs row ∙ all.0 ∙ sym width, turned rows all.1)

    cases : (t : Bool) → AllByRecursion (λ (row : List Tri). length row ≡ length (map (renamed from to) table.inputs)) (if t then map (row_turned from table.inputs) table.rows else table.rows)
    cases true = turned table.rows wide
    cases false = same table.rows wide

pub rewired_shaped : (from to : List ℕ) (inverts : Bool) (table : Table) → IsShaped table → IsShaped (rewired from to inverts table)
rewired_shaped from to inverts table shaped =
    rewired_either IsShaped from to inverts table (λ reads. tidied_shaped (rewires from to inverts table) (rewires_wide from to inverts table shaped.0)) (λ none. shaped)

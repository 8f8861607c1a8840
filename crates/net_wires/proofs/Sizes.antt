-- The sizes of rewritten tables.
use Rattle.std.proofs.Common.{◌≡◌, ℕ, suc, ◌+◌, ◌<◌, ◌≤◌, Bool, true, false, ◌&&◌, ◌||◌, if◌then◌else◌, Option, Some, None, option_map, List, [], ◌∷◌, length, map, bytes_eq, refl, sym, ap, ◌∙◌, subst, arith}
use Rattle.std.specs.List.{AllByRecursion, filter_map, cons_option, list_any, list_all}
use Rattle.std.proofs.lemmas.Bool.{false≢true, and_right, or_from, false_from_ne_true}
use Rattle.std.proofs.lemmas.List.{length-map}
use Rattle.std.proofs.lemmas.Option.{none-some, same_Some}
use Rattle.sis_base.specs.Rows.{value_by_phase, some_matches, matches}
use Rattle.circuit_model.specs.Names.{has, all_different}
use Rattle.circuit_model.specs.Counts.{is_literal}
use Rattle.circuit_model.specs.Values.{literal_of, table_value}
use Rattle.circuit_model.specs.Soundness.{IsShaped}
use Rattle.circuit_model.specs.declared.circuit.Tri.{Tri}
use Rattle.circuit_model.specs.declared.circuit.Tri.TheVariants.{Free}
use Rattle.circuit_model.specs.declared.circuit.Table.{Table}
use Rattle.circuit_laws.specs.Edits.{constant_table}
use Rattle.circuit_tables.specs.Tidy.{front_place, behind_front, used_places, same_row, rows_differ, some_row_or_phase_one, is_tidy, rows_once, chosen, with_rows_once, narrowed, tidied}
use Rattle.circuit_tables.specs.Folding.{constant_one}
use Rattle.circuit_tables.proofs.Tidied.{once_all, size_of, narrowed_fewer, tidied_small, tidied_is, tidied_lost, lost_small, tidied_reads, tidy_parts}
use Rattle.net_wires.specs.Points.{constant_bit, bit_by, written_bit}
use Rattle.net_wires.specs.Rules.{asks_against, row_at_bit, at_bit, renamed, row_turned, rewired}
use Rattle.net_wires.proofs.Points.{constant_at}
use Rattle.net_wires.proofs.Turned.{with_rows_at, at_either, rewires, rewired_either, rewires_wide}

-- a row has no literal of a name
abbrev IsFreeAt : List ℕ → List (List ℕ) → List Tri → Type 0
IsFreeAt name [] row = Unit {0}
IsFreeAt name (input ∷ inputs) [] = Unit {0}
IsFreeAt name (input ∷ inputs) (place ∷ row) = (bytes_eq name input ≡ true → is_literal place ≡ false) × IsFreeAt name inputs row

propagate_free : (name input : List ℕ) (inputs : List (List ℕ)) (place : Tri) (rest : Option (List Tri)) → (bytes_eq name input ≡ true → is_literal place ≡ false)
    → ((made : List Tri) → rest ≡ Some made → IsFreeAt name inputs made) → (made : List Tri) → option_map (λ (r : List Tri). place ∷ r) rest ≡ Some made → IsFreeAt name (input ∷ inputs) made
propagate_free name input inputs place None here h made e = absurd (none-some made e)
propagate_free name input inputs place (Some r) here h made e = subst (IsFreeAt name (input ∷ inputs)) (same_Some (place ∷ r) made e) (here, h r refl)

row_at_free : (name : List ℕ) (bit : Bool) (inputs : List (List ℕ)) (row made : List Tri) → row_at_bit name bit inputs row ≡ Some made → IsFreeAt name inputs made
unfolding row_at_bit
row_at_free name bit [] row made e = tt
row_at_free name bit (input ∷ inputs) [] made e = subst (IsFreeAt name (input ∷ inputs)) (same_Some [] made e) tt
row_at_free name bit (input ∷ inputs) (place ∷ row) made e = cases (bytes_eq name input) refl (asks_against bit place) (row_at_free name bit inputs row) e
  where
    cases : (t : Bool) → bytes_eq name input ≡ t → (u : Bool) → ((some : List Tri) → row_at_bit name bit inputs row ≡ Some some → IsFreeAt name inputs some)
        → (if t then (if u then None else option_map (λ (rest : List Tri). Free ∷ rest) (row_at_bit name bit inputs row))
        else option_map (λ (rest : List Tri). place ∷ rest) (row_at_bit name bit inputs row)) ≡ Some made → IsFreeAt name (input ∷ inputs) made
    cases true d true h k = absurd (none-some made k)
    cases true d false h k = propagate_free name input inputs Free (row_at_bit name bit inputs row) (λ same. refl) h made k
    cases false d u h k = propagate_free name input inputs place (row_at_bit name bit inputs row) (λ same. absurd (false≢true (sym d ∙ same))) h made k

rows_free : (P : List Tri → Type 0) (h : List Tri → Option (List Tri)) → ((row made : List Tri) → h row ≡ Some made → P made) → (rows : List (List Tri)) → AllByRecursion P (filter_map h rows)
rows_free P h each [] = tt
rows_free P h each (row ∷ rows) = cases (h row) (each row) (rows_free P h each rows)
  where
    cases : (o : Option (List Tri)) → ((made : List Tri) → o ≡ Some made → P made) → AllByRecursion P (filter_map h rows) → AllByRecursion P (cons_option o (filter_map h rows))
    cases None k rest = rest
    cases (Some made) k rest = (k made refl, rest)

pub filtered_few : (h : List Tri → Option (List Tri)) (rows : List (List Tri)) → length (filter_map h rows) ≤ length rows
filtered_few h [] = omega arith
filtered_few h (row ∷ rows) = cases (h row) (filtered_few h rows)
  where
    cases : (o : Option (List Tri)) → length (filter_map h rows) ≤ length rows → length (cons_option o (filter_map h rows)) ≤ suc (length rows)
    cases None k = omega arith
    cases (Some made) k = omega arith

front_free : (name input : List ℕ) (inputs : List (List ℕ)) → bytes_eq name input ≡ true → (rows : List (List Tri)) → AllByRecursion (IsFreeAt name (input ∷ inputs)) rows
    → list_any (λ (row : List Tri). is_literal (front_place row)) rows ≡ false
front_free name input inputs same [] all = refl
front_free name input inputs same ([] ∷ rows) all = front_free name input inputs same rows all.1
front_free name input inputs same ((place ∷ row) ∷ rows) all =
    or_from (is_literal place) (list_any (λ (other : List Tri). is_literal (front_place other)) rows) (all.0.0 same) (front_free name input inputs same rows all.1)

behind_free : (name input : List ℕ) (inputs : List (List ℕ)) (rows : List (List Tri)) → AllByRecursion (IsFreeAt name (input ∷ inputs)) rows → AllByRecursion (IsFreeAt name inputs) (map behind_front rows)
behind_free name input inputs [] all = tt
behind_free name input inputs ([] ∷ rows) all = (nothing inputs, behind_free name input inputs rows all.1)
  where
    nothing : (names : List (List ℕ)) → IsFreeAt name names []
    nothing [] = tt
    nothing (first ∷ names) = tt
behind_free name input inputs ((place ∷ row) ∷ rows) all = (all.0.1, behind_free name input inputs rows all.1)

unused : (name : List ℕ) (inputs : List (List ℕ)) (rows : List (List Tri)) → has inputs name ≡ true → AllByRecursion (IsFreeAt name inputs) rows → list_all (λ used. used) (used_places inputs rows) ≡ false
unfolding used_places
unused name [] rows h all = absurd (false≢true h)
unused name (input ∷ inputs) rows h all = cases (bytes_eq name input) refl h (λ k. unused name inputs (map behind_front rows) k (behind_free name input inputs rows all))
  where
    cases : (t : Bool) → bytes_eq name input ≡ t → (t || has inputs name) ≡ true → (has inputs name ≡ true → list_all (λ used. used) (used_places inputs (map behind_front rows)) ≡ false)
        → (list_any (λ (row : List Tri). is_literal (front_place row)) rows && list_all (λ used. used) (used_places inputs (map behind_front rows))) ≡ false
    cases true e k more = ap (λ (b : Bool). b && list_all (λ used. used) (used_places inputs (map behind_front rows))) (front_free name input inputs e rows all)
    cases false e k more = and_right (list_any (λ (row : List Tri). is_literal (front_place row)) rows) (list_all (λ used. used) (used_places inputs (map behind_front rows))) (more k)

lost_phase : (rows : List (List Tri)) (phase : Bool) → some_row_or_phase_one rows phase ≡ false → phase ≡ false
lost_phase [] phase e = e
lost_phase (row ∷ rows) phase e = absurd (false≢true (sym e))

rows_some : (rows : List (List Tri)) (phase : Bool) → (rows ≡ [] → phase ≡ true) → phase ≡ false → 1 ≤ length rows
rows_some [] phase h e = absurd (false≢true (sym e ∙ h refl))
rows_some (row ∷ rows) phase h e = omega arith

names_some : (names : List (List ℕ)) (name : List ℕ) → has names name ≡ true → 1 ≤ length names
names_some [] name h = absurd (false≢true h)
names_some (first ∷ names) name h = omega arith

-- a table that reads the signal gets smaller
tidied_at : (name : List ℕ) (bit : Bool) (table : Table) → IsShaped table → all_different table.inputs ≡ true → has table.inputs name ≡ true → size_of (tidied (with_rows_at name bit table)) < size_of table
tidied_at name bit table shaped once reads =
    cases (some_row_or_phase_one (with_rows_at name bit table).rows (with_rows_at name bit table).phase) refl (filtered_few (row_at_bit name bit table.inputs) table.rows) (names_some table.inputs name reads)
  where
    free : list_all (λ used. used) (used_places table.inputs (rows_once (with_rows_at name bit table).rows)) ≡ false
    free =
        unused name table.inputs (rows_once (with_rows_at name bit table).rows) reads
        (once_all (IsFreeAt name table.inputs) (with_rows_at name bit table).rows (rows_free (IsFreeAt name table.inputs) (row_at_bit name bit table.inputs) (row_at_free name bit table.inputs) table.rows))

    cases : (t : Bool) → some_row_or_phase_one (with_rows_at name bit table).rows (with_rows_at name bit table).phase ≡ t → length (with_rows_at name bit table).rows ≤ length table.rows → 1 ≤ length table.inputs
        → size_of (tidied (with_rows_at name bit table)) < size_of table
    cases true e few one =
        let is : size_of (tidied (with_rows_at name bit table)) ≡ size_of (narrowed (with_rows_once (with_rows_at name bit table))) = ap size_of (tidied_is (with_rows_at name bit table) once e) in
        let less : size_of (narrowed (with_rows_once (with_rows_at name bit table))) < size_of (with_rows_at name bit table) = narrowed_fewer (with_rows_at name bit table) free in
        omega arith
    cases false e few one =
        let small : size_of (tidied (with_rows_at name bit table)) ≤ 1 = lost_small (with_rows_at name bit table) once e in
        let rows : 1 ≤ length table.rows = rows_some table.rows table.phase shaped.1 (lost_phase (with_rows_at name bit table).rows table.phase e) in
        omega arith

pub at_smaller : (name : List ℕ) (bit : Bool) (table : Table) → IsShaped table → all_different table.inputs ≡ true → has table.inputs name ≡ true → size_of (at_bit name bit table) < size_of table
at_smaller name bit table shaped once reads =
    at_either (λ (made : Table). size_of made < size_of table) name bit table (λ h. tidied_at name bit table shaped once reads) (λ none. absurd (false≢true (sym none ∙ reads)))

pub at_small : (name : List ℕ) (bit : Bool) (table : Table) → IsShaped table → all_different table.inputs ≡ true → size_of (at_bit name bit table) ≤ size_of table
at_small name bit table shaped once =
    at_either (λ (made : Table). size_of made ≤ size_of table) name bit table (λ reads. let less : size_of (tidied (with_rows_at name bit table)) < size_of table = tidied_at name bit table shaped once reads in omega arith) (λ none. omega arith)

-- a signal of which no row has a literal is no input of the tidy table
unused_gone : (name : List ℕ) (inputs : List (List ℕ)) (rows : List (List Tri)) → AllByRecursion (IsFreeAt name inputs) rows → has (chosen (used_places inputs rows) inputs) name ≡ false
unfolding used_places chosen
unused_gone name [] rows all = refl
unused_gone name (input ∷ inputs) rows all =
    cases (bytes_eq name input) refl (list_any (λ (row : List Tri). is_literal (front_place row)) rows) refl (unused_gone name inputs (map behind_front rows) (behind_free name input inputs rows all))
  where
    cases : (t : Bool) → bytes_eq name input ≡ t → (m : Bool) → list_any (λ (row : List Tri). is_literal (front_place row)) rows ≡ m
        → has (chosen (used_places inputs (map behind_front rows)) inputs) name ≡ false → has (chosen (m ∷ used_places inputs (map behind_front rows)) (input ∷ inputs)) name ≡ false
    cases true e true d rest = absurd (false≢true (sym (front_free name input inputs e rows all) ∙ d))
    cases t e false d rest = rest
    cases false e true d rest = or_from (bytes_eq name input) (has (chosen (used_places inputs (map behind_front rows)) inputs) name) e rest

narrowed_without : (name : List ℕ) (table : Table) → AllByRecursion (IsFreeAt name table.inputs) table.rows → has (narrowed (with_rows_once table)).inputs name ≡ false
unfolding narrowed
narrowed_without name table free = unused_gone name table.inputs (rows_once table.rows) (once_all (IsFreeAt name table.inputs) table.rows free)

-- a table at a bit does not read the signal any more
pub at_without : (name : List ℕ) (bit : Bool) (table : Table) → all_different table.inputs ≡ true → has (at_bit name bit table).inputs name ≡ false
at_without name bit table once =
    at_either (λ (made : Table). has made.inputs name ≡ false) name bit table (λ reads. cases (some_row_or_phase_one (with_rows_at name bit table).rows (with_rows_at name bit table).phase) refl) (λ none. none)
  where
    cases : (t : Bool) → some_row_or_phase_one (with_rows_at name bit table).rows (with_rows_at name bit table).phase ≡ t → has (tidied (with_rows_at name bit table)).inputs name ≡ false
    cases true e =
        ap (λ (made : Table). has made.inputs name) (tidied_is (with_rows_at name bit table) once e)
        ∙ narrowed_without name (with_rows_at name bit table) (rows_free (IsFreeAt name table.inputs) (row_at_bit name bit table.inputs) (row_at_free name bit table.inputs) table.rows)
    cases false e =
        ap (λ (made : Table). has made.inputs name) (tidied_lost (with_rows_at name bit table) once e)
        ∙ narrowed_without name (constant_one table.output) (tt, tt)

-- a rewired table is no larger, and does not read the signal any more
rewires_shaped : (from to : List ℕ) (inverts : Bool) (table : Table) → IsShaped table → IsShaped (rewires from to inverts table)
rewires_shaped from to inverts table shaped = (rewires_wide from to inverts table shaped.0, λ none. shaped.1 (empty inverts table.rows none))
  where
    empty : (t : Bool) (rows : List (List Tri)) → (if t then map (row_turned from table.inputs) rows else rows) ≡ [] → rows ≡ []
    empty true [] e = refl
    empty true (row ∷ rows) e = absurd (let no : row_turned from table.inputs row ∷ map (row_turned from table.inputs) rows ≡ [] = e in cc)
    empty false rows e = e

rewires_size : (from to : List ℕ) (inverts : Bool) (table : Table) → size_of (rewires from to inverts table) ≡ size_of table
rewires_size from to inverts table =
    let inputs : length (map (renamed from to) table.inputs) ≡ length table.inputs = length-map table.inputs (renamed from to) in
    let rows : length (if inverts then map (row_turned from table.inputs) table.rows else table.rows) ≡ length table.rows = cases inverts in
    omega arith
  where
    cases : (t : Bool) → length (if t then map (row_turned from table.inputs) table.rows else table.rows) ≡ length table.rows
    cases true = length-map table.rows (row_turned from table.inputs)
    cases false = refl

pub rewired_small : (from to : List ℕ) (inverts : Bool) (table : Table) → IsShaped table → size_of (rewired from to inverts table) ≤ size_of table
rewired_small from to inverts table shaped =
    rewired_either (λ (made : Table). size_of made ≤ size_of table) from to inverts table
    (λ reads.
    let small : size_of (tidied (rewires from to inverts table)) ≤ size_of (rewires from to inverts table) = tidied_small (rewires from to inverts table) (rewires_shaped from to inverts table shaped) in
    let same : size_of (rewires from to inverts table) ≡ size_of table = rewires_size from to inverts table in
    omega arith) (λ none. omega arith)

renamed_without : (from to : List ℕ) → bytes_eq from to ≡ false → (inputs : List (List ℕ)) → has (map (renamed from to) inputs) from ≡ false
renamed_without from to apart [] = refl
renamed_without from to apart (input ∷ inputs) = cases (bytes_eq from input) refl (renamed_without from to apart inputs)
  where
    cases : (t : Bool) → bytes_eq from input ≡ t → has (map (renamed from to) inputs) from ≡ false → (bytes_eq from (if t then to else input) || has (map (renamed from to) inputs) from) ≡ false
    cases true e rest = or_from (bytes_eq from to) (has (map (renamed from to) inputs) from) apart rest
    cases false e rest = or_from (bytes_eq from input) (has (map (renamed from to) inputs) from) e rest

pub rewired_without : (from to : List ℕ) (inverts : Bool) (table : Table) → bytes_eq from to ≡ false → has (rewired from to inverts table).inputs from ≡ false
rewired_without from to inverts table apart =
    rewired_either (λ (made : Table). has made.inputs from ≡ false) from to inverts table
    (λ reads. false_from_ne_true (has (tidied (rewires from to inverts table)).inputs from) (λ h. false≢true (sym (renamed_without from to apart table.inputs) ∙ tidied_reads (rewires from to inverts table) from h)))
    (λ none. none)

-- a tidy table that is a constant and is not written as one is larger than the constant
pub constant_size : (name : List ℕ) (bit : Bool) → size_of (constant_table name bit) ≤ 1
constant_size name true = omega arith
constant_size name false = omega arith

constant_by : (name : List ℕ) (inputs : List (List ℕ)) (rows : List (List Tri)) (phase bit : Bool) → AllByRecursion (λ (row : List Tri). length row ≡ length inputs) rows → (rows ≡ [] → phase ≡ true)
    → list_all (λ used. used) (used_places inputs rows) ≡ true → rows_differ rows ≡ true → bit_by inputs phase rows ≡ None
    → (inputs ≡ [] → value_by_phase phase (map (map literal_of) rows) [] ≡ bit) → size_of (constant_table name bit) < length inputs + length rows
unfolding used_places rows_differ same_row value_by_phase some_matches matches
constant_by name (input ∷ inputs) [] phase bit wide shape used differ none at = absurd (false≢true used)
constant_by name (input ∷ inputs) (row ∷ rows) phase bit wide shape used differ none at = let small : size_of (constant_table name bit) ≤ 1 = constant_size name bit in omega arith
constant_by name [] [] true bit wide shape used differ none at = absurd (none-some false (sym none))
constant_by name [] [] false bit wide shape used differ none at = absurd (false≢true (shape refl))
constant_by name [] ([] ∷ []) true bit wide shape used differ none at = absurd (none-some true (sym none))
constant_by name [] ([] ∷ []) false true wide shape used differ none at = absurd (false≢true (at refl))
constant_by name [] ([] ∷ []) false false wide shape used differ none at = omega arith
constant_by name [] ((place ∷ row) ∷ rows) phase bit wide shape used differ none at = absurd (let e : suc (length row) ≡ 0 = wide.0 in omega arith)
constant_by name [] ([] ∷ ([] ∷ rows)) phase bit wide shape used differ none at = absurd (false≢true differ)
constant_by name [] ([] ∷ ((place ∷ row) ∷ rows)) phase bit wide shape used differ none at = absurd (let e : suc (length row) ≡ 0 = wide.1.0 in omega arith)

pub constant_smaller : (table : Table) (bit : Bool) → IsShaped table → is_tidy table ≡ true → written_bit table ≡ None → constant_bit table ≡ Some bit → size_of (constant_table table.output bit) < size_of table
unfolding written_bit table_value
constant_smaller table bit shaped tidy unwritten constant =
    constant_by table.output table.inputs table.rows table.phase bit shaped.0 shaped.1 (tidy_parts table tidy).used (tidy_parts table tidy).differ unwritten
    (λ e. constant_at table bit constant [] (sym (ap length e)))

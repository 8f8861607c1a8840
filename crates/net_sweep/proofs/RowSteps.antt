-- Rows in which a signal has a bit or is complemented, by marked columns.
use Rattle.std.proofs.Common.{◌≡◌, ℕ, ◌+◌, ◌<◌, ◌≤◌, Bool, true, false, not, ◌&&◌, if◌then◌else◌, Option, Some, None, List, [], ◌∷◌, ◌++◌, length, get_or, drop, map, bytes_eq, refl, sym, ap, ◌∙◌, subst, arith}
use Rattle.std.specs.List.{list_any, filter_map}
use Rattle.std.specs.Option.{option_map, option_map_or}
use Rattle.std.proofs.lemmas.List.{drop_more, drop_all, append_assoc, append-nil, length-map}
use Rattle.circuit_model.specs.declared.circuit.Tri.{Tri}
use Rattle.circuit_model.specs.declared.circuit.Tri.TheVariants.{Zero, One, Free}
use Rattle.circuit_model.specs.declared.circuit.Table.{Table}
use Rattle.sis_base.specs.Rows.{agrees, matches, some_matches, value_by_phase}
use Rattle.circuit_model.specs.Values.{literal_of, table_value}
use Rattle.net_wires.specs.Rules.{asks_against, row_at_bit, at_bit, row_turned, is_inverter}
use Rattle.circuit_model.specs.Names.{has}
use Rattle.circuit_tables.specs.Tidy.{tidied}
use Rattle.net_core.specs.Tables.{HasCharacters}
use Rattle.net_wires.specs.Aliases.{row_over}
use Rattle.net_sweep.specs.Columns.{opens_at_one, row_at_marks}

-- the character of a column in a row in which a signal has a bit
abbrev pub place_for : Bool → Bool → Tri → Option Tri
place_for is_signal bit place = if is_signal then (if asks_against bit place then None else Some Free) else Some place

-- a row after some characters
abbrev pub behind : List Tri → Option (List Tri) → Option (List Tri)
behind made rest = option_map (λ (row : List Tri). made ++ row) rest

pub bit_more : (bit : Bool) (marks : List Bool) (row : List Tri) (i : ℕ) (mark : Bool) → i < length marks → length row ≡ length marks → mark ≡ get_or marks i false
    → row_at_marks bit (drop i marks) (drop i row)
    ≡ option_map_or (λ (place : Tri). option_map (λ (rest : List Tri). place ∷ rest) (row_at_marks bit (drop (i + 1) marks) (drop (i + 1) row))) (place_for mark bit (get_or row i Zero)) None
unfolding row_at_marks
bit_more bit marks row i mark lt e is =
    rw (drop_more marks i false lt, ← is, drop_more row i Zero (omega (arith, e, lt)))
    (cases mark (asks_against bit (get_or row i Zero)) (get_or row i Zero) (row_at_marks bit (drop (i + 1) marks) (drop (i + 1) row)))
  where
    cases : (b a : Bool) (place : Tri) (rest : Option (List Tri))
        → (if b then (if a then None else option_map (λ (r : List Tri). Free ∷ r) rest) else option_map (λ (r : List Tri). place ∷ r) rest)
        ≡ option_map_or (λ (p : Tri). option_map (λ (r : List Tri). p ∷ r) rest) (if b then (if a then None else Some Free) else Some place) None
    cases true true place rest = refl
    cases true false place rest = refl
    cases false a place rest = refl

pub bit_done : (bit : Bool) (marks : List Bool) (row : List Tri) (i : ℕ) → length marks ≤ i → length row ≡ length marks → row_at_marks bit (drop i marks) (drop i row) ≡ Some []
unfolding row_at_marks
bit_done bit marks row i le e = rw (drop_all i marks le, drop_all i row (omega (arith, e, le))) refl

-- one more character is made
pub bit_next : (whole rest now : Option (List Tri)) (made new : List Tri) (place : Tri) (found : Option Tri) → behind made now ≡ whole
    → now ≡ option_map_or (λ (p : Tri). option_map (λ (r : List Tri). p ∷ r) rest) found None → found ≡ Some place → new ≡ made ++ place ∷ [] → behind new rest ≡ whole
bit_next whole rest now made new place found inv more f n = rw (n) (by rest (sym inv ∙ ap (behind made) (more ∙ ap (λ (o : Option Tri). option_map_or (λ (p : Tri). option_map (λ (r : List Tri). p ∷ r) rest) o None) f)))
  where
    by : (rest : Option (List Tri)) → whole ≡ behind made (option_map (λ (r : List Tri). place ∷ r) rest) → behind (made ++ place ∷ []) rest ≡ whole
    by None h = sym h
    by (Some row) h = ap Some (append_assoc made (place ∷ []) row) ∙ sym h

pub bit_gone : (whole rest now : Option (List Tri)) (made : List Tri) (found : Option Tri) → behind made now ≡ whole
    → now ≡ option_map_or (λ (p : Tri). option_map (λ (r : List Tri). p ∷ r) rest) found None → found ≡ None → None ≡ whole
bit_gone whole rest now made found inv more f = ap (behind made) (sym (more ∙ ap (λ (o : Option Tri). option_map_or (λ (p : Tri). option_map (λ (r : List Tri). p ∷ r) rest) o None) f)) ∙ inv

pub bit_all : (whole now : Option (List Tri)) (made : List Tri) → behind made now ≡ whole → now ≡ Some [] → Some made ≡ whole
bit_all whole now made inv done = ap Some (sym (append-nil made)) ∙ (ap (behind made) (sym done) ∙ inv)

-- rows by the names of their inputs

row_marked : (name : List ℕ) (bit : Bool) (inputs : List (List ℕ)) (row : List Tri) → row_at_marks bit (map (bytes_eq name) inputs) row ≡ row_at_bit name bit inputs row
unfolding row_at_marks row_at_bit
row_marked name bit [] row = refl
row_marked name bit (input ∷ inputs) [] = refl
row_marked name bit (input ∷ inputs) (place ∷ row) = rw (row_marked name bit inputs row) refl

pub rows_marked : (name : List ℕ) (bit : Bool) (inputs : List (List ℕ)) (marks : List Bool) (rows : List (List Tri)) → marks ≡ map (bytes_eq name) inputs → filter_map (row_at_marks bit marks) rows ≡ filter_map (row_at_bit name bit inputs) rows
rows_marked name bit inputs marks rows e = ap (λ (ms : List Bool). filter_map (row_at_marks bit ms) rows) e ∙ by rows
  where
    by : (rows : List (List Tri)) → filter_map (row_at_marks bit (map (bytes_eq name) inputs)) rows ≡ filter_map (row_at_bit name bit inputs) rows
    by [] = refl
    by (row ∷ rows) = rw (row_marked name bit inputs row, by rows) refl

turned_marked : (name : List ℕ) (inputs : List (List ℕ)) (row : List Tri) → row_over (map (bytes_eq name) inputs) row ≡ row_turned name inputs row
unfolding row_over row_turned
turned_marked name [] row = refl
turned_marked name (input ∷ inputs) [] = refl
turned_marked name (input ∷ inputs) (place ∷ row) = rw (turned_marked name inputs row) refl

pub all_turned_marked : (name : List ℕ) (inputs : List (List ℕ)) (marks : List Bool) (rows : List (List Tri)) → marks ≡ map (bytes_eq name) inputs → map (row_over marks) rows ≡ map (row_turned name inputs) rows
all_turned_marked name inputs marks rows e = ap (λ (ms : List Bool). map (row_over ms) rows) e ∙ by rows
  where
    by : (rows : List (List Tri)) → map (row_over (map (bytes_eq name) inputs)) rows ≡ map (row_turned name inputs) rows
    by [] = refl
    by (row ∷ rows) = rw (turned_marked name inputs row, by rows) refl

-- a table in which the signal of the marked columns has a bit
pub at_marked : (name : List ℕ) (bit : Bool) (table : Table) (marks : List Bool) (inputs : List (List ℕ)) (output : List ℕ) (rows : List (List Tri)) → has table.inputs name ≡ true → marks ≡ map (bytes_eq name) table.inputs
    → inputs ≡ table.inputs → output ≡ table.output → rows ≡ filter_map (row_at_marks bit marks) table.rows → tidied (record { inputs = inputs; output = output; rows = rows; phase = table.phase }) ≡ at_bit name bit table
unfolding at_bit
at_marked name bit table marks inputs output rows reads m i o r = rw (reads, i, o, r, rows_marked name bit table.inputs marks table.rows m) refl

pub marked_wide : (name : List ℕ) (inputs : List (List ℕ)) (marks : List Bool) (rows : List (List Tri)) → marks ≡ map (bytes_eq name) inputs → HasCharacters (length inputs) rows → HasCharacters (length marks) rows
marked_wide name inputs marks rows e h = subst (λ (n : ℕ). HasCharacters n rows) (sym (ap (λ (ms : List Bool). length ms) e ∙ length-map inputs (bytes_eq name))) h

-- a table of one input at 1
open_row : (row : List Tri) → matches (map literal_of row) (true ∷ []) ≡ opens_at_one row
unfolding matches
open_row [] = refl
open_row (c ∷ row) = ap (λ b. agrees (literal_of c) true && b) (no_more row) ∙ by c
  where
    no_more : (row : List Tri) → matches (map literal_of row) [] ≡ true
    no_more [] = refl
    no_more (c ∷ row) = refl

    by : (c : Tri) → (agrees (literal_of c) true && true) ≡ opens_at_one (c ∷ row)
    by Zero = refl
    by One = refl
    by Free = refl

open_rows : (rows : List (List Tri)) → some_matches (map (map literal_of) rows) (true ∷ []) ≡ list_any opens_at_one rows
unfolding some_matches
open_rows [] = refl
open_rows (row ∷ rows) = rw (open_row row, open_rows rows) refl

pub inverts_positive : (table : Table) → table.phase ≡ true → is_inverter table ≡ not (list_any opens_at_one table.rows)
unfolding table_value value_by_phase
inverts_positive table p = rw (p, open_rows table.rows) refl

pub inverts_negative : (table : Table) → table.phase ≡ false → is_inverter table ≡ list_any opens_at_one table.rows
unfolding table_value value_by_phase
inverts_negative table p = rw (p, open_rows table.rows) (twice (list_any opens_at_one table.rows))
  where
    twice : (b : Bool) → not (not b) ≡ b
    twice true = refl
    twice false = refl

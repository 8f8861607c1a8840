-- The rows of a table as text, and that they are read as they were.
use Rattle.std.proofs.Common.{◌≡◌, ℕ, ◌+◌, ◌-◌, Bool, true, false, ◌==◌, List, [], ◌∷◌, ◌++◌, length, take, drop, refl, subst, sym, ap, ◌∙◌, arith, map}
use Rattle.std.specs.List.{AllByRecursion, list_all}
use Rattle.std.proofs.lemmas.Bool.{eq-eqb}
use Rattle.std.proofs.lemmas.List.{length-append, length-map, get_or_at, take_at, drop_at}
use Rattle.circuit_model.specs.declared.circuit.Tri.{Tri}
use Rattle.circuit_model.specs.declared.circuit.Tri.TheVariants.{Zero, One, Free}
use Rattle.circuit_model.specs.declared.circuit.Table.{Table}
use Rattle.circuit_model.specs.Text.{character, digit_of_phase, row_line}
use Rattle.circuit_model.specs.Soundness.{IsShaped}
use Rattle.line_words.specs.LineWords.{character_of}
use Rattle.blif_lines.specs.Lines.{is_output_character, joined, is_row_of, output_character, first_mark, has_mark, input_words, last_word}
use Rattle.blif_lines.specs.Reader.{row_of, phase_by, table_of}
use Rattle.kiss_format.proofs.WrittenRows.{characters_pass}

-- the byte of a phase, and the characters of a row followed by its phase
abbrev pub phase_byte : Bool → ℕ
phase_byte true = 49
phase_byte false = 48

abbrev pub row_text : Bool → List Tri → List ℕ
row_text phase row = map character row ++ phase_byte phase ∷ []

digit_joined : (phase : Bool) → digit_of_phase phase ++ [] ≡ phase_byte phase ∷ []
digit_joined true = refl
digit_joined false = refl

pub row_joined : (phase : Bool) (row : List Tri) → joined ((row_line phase row).first ∷ (row_line phase row).others) ≡ row_text phase row
unfolding joined row_line
row_joined phase [] = digit_joined phase
row_joined phase (place ∷ row) = ap (λ text. map character (place ∷ row) ++ text) (digit_joined phase)

-- if a row has a character for each column
text_length : (width : ℕ) (phase : Bool) (row : List Tri) → length row ≡ width → length (row_text phase row) ≡ width + 1
text_length width phase row e = omega (arith, length-append (map character row) (phase_byte phase ∷ []), length-map row character, e)

marks_length : (width : ℕ) (row : List Tri) → length row ≡ width → length (map character row) ≡ width
marks_length width row e = length-map row character ∙ e

text_marks : (width : ℕ) (phase : Bool) (row : List Tri) → length row ≡ width → take width (row_text phase row) ≡ map character row
text_marks width phase row e = take_at (map character row) (phase_byte phase ∷ []) width (marks_length width row e)

text_phase : (width : ℕ) (phase : Bool) (row : List Tri) → length row ≡ width → drop width (row_text phase row) ≡ phase_byte phase ∷ []
text_phase width phase row e = drop_at (map character row) (phase_byte phase ∷ []) width (marks_length width row e)

text_output : (width : ℕ) (phase : Bool) (row : List Tri) → length row ≡ width → output_character width (row_text phase row) ≡ phase_byte phase
text_output width phase row e = get_or_at (map character row) (phase_byte phase) [] 0 width (marks_length width row e)

phase_passes : (phase : Bool) → list_all is_output_character (phase_byte phase ∷ []) ≡ true
phase_passes true = refl
phase_passes false = refl

pub row_taken : (width : ℕ) (phase : Bool) (row : List Tri) → length row ≡ width → is_row_of width (row_text phase row) ≡ true
unfolding is_row_of
row_taken width phase row e =
    rw (text_marks width phase row e, text_phase width phase row e, eq-eqb (length (row_text phase row)) (width + 1) (text_length width phase row e), characters_pass row, phase_passes phase) refl

same_phase : (phase : Bool) → (phase_byte phase == phase_byte phase) ≡ true
same_phase true = refl
same_phase false = refl

pub phase_taken : (width : ℕ) (phase : Bool) (row : List Tri) (done : List (List Tri)) → length row ≡ width → AllByRecursion (λ (row : List Tri). length row ≡ width) done → has_mark (first_mark width (map (row_text phase) done)) (output_character width (row_text phase row)) ≡ true
phase_taken width phase row [] e h = refl
phase_taken width phase row (first ∷ done) e h = rw (text_output width phase row e, text_output width phase first h.0) (same_phase phase)

-- the row and the phase back
marks_back : (row : List Tri) → map character_of (map character row) ≡ row
marks_back [] = refl
marks_back (Zero ∷ row) = ap (λ places. Zero ∷ places) (marks_back row)
marks_back (One ∷ row) = ap (λ places. One ∷ places) (marks_back row)
marks_back (Free ∷ row) = ap (λ places. Free ∷ places) (marks_back row)

row_back : (width : ℕ) (phase : Bool) (row : List Tri) → length row ≡ width → row_of width (row_text phase row) ≡ row
row_back width phase row e = ap (map character_of) (text_marks width phase row e) ∙ marks_back row

rows_back : (width : ℕ) (phase : Bool) (rows : List (List Tri)) → AllByRecursion (λ (row : List Tri). length row ≡ width) rows → map (row_of width) (map (row_text phase) rows) ≡ rows
rows_back width phase [] h = refl
rows_back width phase (row ∷ rows) h =
    ap (λ (first : List Tri). first ∷ map (row_of width) (map (row_text phase) rows)) (row_back width phase row h.0) ∙ ap (λ others. row ∷ others) (rows_back width phase rows h.1)

is_phase : (phase : Bool) → (phase_byte phase == 49) ≡ phase
is_phase true = refl
is_phase false = refl

phase_back : (width : ℕ) (phase : Bool) (rows : List (List Tri)) → AllByRecursion (λ (row : List Tri). length row ≡ width) rows → (rows ≡ [] → phase ≡ true) → phase_by width (map (row_text phase) rows) ≡ phase
phase_back width phase [] h one = sym (one refl)
phase_back width phase (row ∷ rows) h one = ap (λ (n : ℕ). n == 49) (text_output width phase row h.0) ∙ is_phase phase

-- the words of a `.names` line
abbrev pub names_words : Table → List (List ℕ)
names_words table = table.inputs ++ table.output ∷ []

pub names_width : (table : Table) → length (names_words table) - 1 ≡ length table.inputs
names_width table = omega (arith, length-append table.inputs (table.output ∷ []))

pub inputs_back : (table : Table) → input_words (names_words table) ≡ table.inputs
inputs_back table = take_at table.inputs (table.output ∷ []) (length (names_words table) - 1) (sym (names_width table))

last_of : (inputs : List (List ℕ)) (output : List ℕ) → last_word (inputs ++ output ∷ []) ≡ output
unfolding last_word
last_of [] output = refl
last_of (input ∷ []) output = refl
last_of (input ∷ next ∷ inputs) output = last_of (next ∷ inputs) output

pub output_back : (table : Table) → last_word (names_words table) ≡ table.output
output_back table = last_of table.inputs table.output

abbrev table_with : List (List ℕ) → List ℕ → List (List Tri) → Bool → Table
table_with inputs output rows phase = record { inputs = inputs; output = output; rows = rows; phase = phase }

table_same : (inputs names : List (List ℕ)) (output name : List ℕ) (rows places : List (List Tri)) (phase bit : Bool) → inputs ≡ names → output ≡ name → rows ≡ places → phase ≡ bit → table_with inputs output rows phase ≡ table_with names name places bit
table_same inputs names output name rows places phase bit a b c d = rw (a, b, c, d) refl

pub table_back : (table : Table) → IsShaped table → table_of (names_words table) (map (row_text table.phase) table.rows) ≡ table
unfolding table_of
table_back table shaped =
    let width = length (names_words table) - 1 in
    let wide : AllByRecursion (λ (row : List Tri). length row ≡ width) table.rows = subst (λ (n : ℕ). AllByRecursion (λ (row : List Tri). length row ≡ n) table.rows) (sym (names_width table)) shaped.0 in
    table_same (input_words (names_words table)) table.inputs (last_word (names_words table)) table.output (map (row_of width) (map (row_text table.phase) table.rows)) table.rows (phase_by width (map (row_text table.phase) table.rows)) table.phase (inputs_back table) (output_back table) (rows_back width table.phase table.rows wide) (phase_back width table.phase table.rows wide shaped.1)

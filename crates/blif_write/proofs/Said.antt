-- What the lines of a circuit and of gates beside it say, part by part.
use Rattle.std.proofs.Common.{◌≡◌, ℕ, zero, suc, ◌+◌, ◌-◌, ◌≤◌, Bool, true, false, not, ◌||◌, cond, if◌then◌else◌, Option, Some, None, option_map, List, [], ◌∷◌, ◌++◌, refl, sym, ap, subst, ◌∙◌, arith, map, drop, flat_map, find, take_while, codes, slice_index}
use Rattle.std.specs.Prelude.{bytes_eq, option_to_list}
use Rattle.std.specs.List.{AllByRecursion}
use Rattle.std.proofs.lemmas.Grind.{flat_map-append}
use Rattle.std.proofs.lemmas.List.{append_assoc, append-nil, map-append}
use Rattle.std.proofs.lemmas.List.Sums.{take_while-cons}
use Rattle.sis_base.specs.Written.{Written}
use Rattle.genlib_format.specs.declared.gate.Gate.{Gate as TheGate}
use Rattle.sis_text.specs.Entries.{Entry}
use Rattle.sis_text.specs.Written.{numbered}
use Rattle.circuit_model.specs.declared.circuit.Tri.{Tri}
use Rattle.circuit_model.specs.declared.circuit.Kind.{Kind}
use Rattle.circuit_model.specs.declared.circuit.Kind.TheVariants.{Fe, Re, Ah, Al}
use Rattle.circuit_model.specs.declared.circuit.Timing.{Timing}
use Rattle.circuit_model.specs.declared.circuit.Table.{Table}
use Rattle.circuit_model.specs.declared.circuit.Latch.{Latch as TheLatch}
use Rattle.circuit_model.specs.declared.circuit.Circuit.{Circuit}
use Rattle.circuit_model.specs.Names.{has}
use Rattle.circuit_model.specs.Text.{dotted, kind_word, control_word, timing_words, init_word, latch_line, clock_lines, row_line, table_lines}
use Rattle.netlist.specs.Lines.{gate_line, lines_with_gates}
use Rattle.netlist.specs.declared.mapped.Placed.{Placed}
use Rattle.circuit_model.specs.Runs.{latch_outputs}
use Rattle.circuit_model.specs.Soundness.{IsShaped, control_of, outputs_of, latch_inputs, table_inputs}
use Rattle.circuit_tables.proofs.Once.{itself, bytes_eq-sym}
use Rattle.line_words.specs.LineWords.{other_words}
use Rattle.blif_lines.specs.Keyword.{keyword_of, kind_of, is_row, is_row_kind}
use Rattle.blif_lines.specs.Lines.{joined, begins_part}
use Rattle.blif_lines.specs.Reader.{of_lines, model_lines, part_lines, listed_inputs, listed_outputs, listed_ports, listed_clocks, lists_inputs, lists_outputs, names_beside, listed_or, driven_by, read_by, latches_by, init_of, inputs_in, outputs_in, ports_in, clocks_in, drives_in, reads_within, reads_in, latches_in, kind_by, control_by, timing_of, is_latch_line, latch_lines, timing_at, first_timing, timing_in, same_kind, same_control, same_timing, mixed_clock, tables_by, tables_in, table_of, model_name, gate_tables, gate_inputs}
use Rattle.blif_lines.specs.declared.keyword.Keyword.{Keyword}
use Rattle.blif_lines.specs.declared.keyword.Keyword.TheVariants.{Model, Inputs, Outputs, Clock, Names, Latch, Gate, Subckt, StartKiss, DontCare, End, Skipped, Row, Other}
use Rattle.blif_lines.proofs.NameLists.{all_append}
use Rattle.blif_lines.proofs.Agreement.{own_more, own_ends, part_later, part_here}
use Rattle.blif_write.proofs.Words.{end_lines, stop_lines, part_written, gate_words, own_lines, lines_split}
use Rattle.blif_write.proofs.LineKinds.{entry, row_kind}
use Rattle.blif_write.proofs.RowTexts.{row_text, row_joined, names_words, inputs_back, output_back, table_back}

-- the same of lines that have no number yet
abbrev said : {A : Type 0} → (Keyword → List (List ℕ) → List A) → List Written → List A
said f lines = flat_map (λ (line : Written). f (keyword_of line.first) line.others) lines

of_numbered : {A : Type 0} (f : Keyword → List (List ℕ) → List A) (number : ℕ) (lines : List Written) → of_lines f (numbered number lines) ≡ said f lines
unfolding numbered kind_of
of_numbered f number [] = refl
of_numbered f number (line ∷ lines) = ap (λ more. f (keyword_of line.first) line.others ++ more) (of_numbered f (number + 1) lines)

-- rows say nothing but in their table
abbrev IsOfNoRow : {A : Type 0} → (Keyword → List (List ℕ) → List A) → Type 0
IsOfNoRow f = (words : List (List ℕ)) → f Row words ≡ []

rows_said : {A : Type 0} (f : Keyword → List (List ℕ) → List A) (phase : Bool) (rows : List (List Tri)) → IsOfNoRow f → said f (map (row_line phase) rows) ≡ []
rows_said f phase [] none = refl
rows_said f phase (row ∷ rows) none =
    ap (λ (kind : Keyword). f kind (row_line phase row).others ++ said f (map (row_line phase) rows)) (row_kind phase row)
    ∙ ap (λ first. first ++ said f (map (row_line phase) rows)) (none (row_line phase row).others) ∙ rows_said f phase rows none

table_said : {A : Type 0} (f : Keyword → List (List ℕ) → List A) (table : Table) → IsOfNoRow f → said f (table_lines table) ≡ f Names (names_words table)
unfolding table_lines keyword_of
table_said f table none = ap (λ more. f Names (names_words table) ++ more) (rows_said f table.phase table.rows none) ∙ append-nil (f Names (names_words table))

tables_said : {A : Type 0} (f : Keyword → List (List ℕ) → List A) (tables : List Table) → IsOfNoRow f → said f (flat_map table_lines tables) ≡ flat_map (λ (table : Table). f Names (names_words table)) tables
tables_said f [] none = refl
tables_said f (table ∷ tables) none =
    flat_map-append (λ (line : Written). f (keyword_of line.first) line.others) (table_lines table) (flat_map table_lines tables)
    ∙ ap (λ first. first ++ said f (flat_map table_lines tables)) (table_said f table none)
    ∙ ap (λ more. f Names (names_words table) ++ more) (tables_said f tables none)

abbrev latch_words : Option Timing → TheLatch → List (List ℕ)
latch_words timing latch = latch.input ∷ latch.output ∷ timing_words timing ++ init_word latch.init ∷ []

latches_said : {A : Type 0} (f : Keyword → List (List ℕ) → List A) (timing : Option Timing) (latches : List TheLatch) → said f (map (latch_line timing) latches) ≡ flat_map (λ (latch : TheLatch). f Latch (latch_words timing latch)) latches
unfolding keyword_of latch_line
latches_said f timing [] = refl
latches_said f timing (latch ∷ latches) = ap (λ more. f Latch (latch_words timing latch) ++ more) (latches_said f timing latches)

gates_said : {A : Type 0} (f : Keyword → List (List ℕ) → List A) (gates : List Placed) → said f (map gate_line gates) ≡ flat_map (λ (placed : Placed). f Gate (gate_words placed)) gates
unfolding keyword_of gate_line
gates_said f [] = refl
gates_said f (placed ∷ gates) = ap (λ more. f Gate (gate_words placed) ++ more) (gates_said f gates)

-- what all lines of the model say
abbrev parts : {A : Type 0} → (Keyword → List (List ℕ) → List A) → List Placed → Circuit → List A
parts f gates circuit =
    f Model (circuit.name ∷ []) ++ (f Inputs circuit.inputs ++ (f Outputs circuit.outputs ++ (said f (clock_lines circuit.clocks)
    ++ (flat_map (λ (latch : TheLatch). f Latch (latch_words circuit.timing latch)) circuit.latches
    ++ (flat_map (λ (placed : Placed). f Gate (gate_words placed)) gates
    ++ (flat_map (λ (table : Table). f Names (names_words table)) circuit.tables ++ said f (stop_lines circuit.dont_care)))))))

lines_say : {A : Type 0} (f : Keyword → List (List ℕ) → List A) (gates : List Placed) (circuit : Circuit) → IsOfNoRow f → of_lines f (numbered 1 (own_lines gates circuit)) ≡ parts f gates circuit
unfolding own_lines keyword_of
lines_say f gates circuit none =
    let g = λ (line : Written). f (keyword_of line.first) line.others in
    let stop = stop_lines circuit.dont_care in
    let rest = flat_map table_lines circuit.tables ++ stop in
    let latches = flat_map (λ (latch : TheLatch). f Latch (latch_words circuit.timing latch)) circuit.latches in
    let cells = flat_map (λ (placed : Placed). f Gate (gate_words placed)) gates in
    let tables = flat_map (λ (table : Table). f Names (names_words table)) circuit.tables in
    let of_tables : said f rest ≡ tables ++ said f stop =
    flat_map-append g (flat_map table_lines circuit.tables) stop ∙ ap (λ first. first ++ said f stop) (tables_said f circuit.tables none) in
    let of_gates : said f (map gate_line gates ++ rest) ≡ cells ++ (tables ++ said f stop) =
    flat_map-append g (map gate_line gates) rest ∙ ap (λ first. first ++ said f rest) (gates_said f gates) ∙ ap (λ more. cells ++ more) of_tables in
    let of_latches : said f (map (latch_line circuit.timing) circuit.latches ++ (map gate_line gates ++ rest)) ≡ latches ++ (cells ++ (tables ++ said f stop)) =
    flat_map-append g (map (latch_line circuit.timing) circuit.latches) (map gate_line gates ++ rest)
    ∙ ap (λ first. first ++ said f (map gate_line gates ++ rest)) (latches_said f circuit.timing circuit.latches) ∙ ap (λ more. latches ++ more) of_gates in
    let of_all : said f (clock_lines circuit.clocks ++ (map (latch_line circuit.timing) circuit.latches ++ (map gate_line gates ++ rest))) ≡ said f (clock_lines circuit.clocks) ++ (latches ++ (cells ++ (tables ++ said f stop))) =
    flat_map-append g (clock_lines circuit.clocks) (map (latch_line circuit.timing) circuit.latches ++ (map gate_line gates ++ rest)) ∙ ap (λ more. said f (clock_lines circuit.clocks) ++ more) of_latches in
    of_numbered f 1 (own_lines gates circuit) ∙ ap (λ more. f Model (circuit.name ∷ []) ++ (f Inputs circuit.inputs ++ (f Outputs circuit.outputs ++ more))) of_all

-- the end says nothing
stop_said : {A : Type 0} (f : Keyword → List (List ℕ) → List A) (part : List Table) → f End [] ≡ [] → said f (stop_lines part) ≡ []
unfolding keyword_of
stop_said f [] e = ap (λ first. first ++ []) e
stop_said f (table ∷ part) e = refl

no_clocks : {A : Type 0} (f : Keyword → List (List ℕ) → List A) (clocks : List (List ℕ)) → ((words : List (List ℕ)) → f Clock words ≡ []) → said f (clock_lines clocks) ≡ []
unfolding keyword_of clock_lines
no_clocks f [] h = refl
no_clocks f (clock ∷ clocks) h = ap (λ first. first ++ []) (h (clock ∷ clocks))

-- where clocks, latches, gates and tables say these lists, and the end nothing
parts_are : {A : Type 0} (f : Keyword → List (List ℕ) → List A) (gates : List Placed) (circuit : Circuit) (of_clocks of_latches of_gates of_tables : List A) → IsOfNoRow f → said f (clock_lines circuit.clocks) ≡ of_clocks
    → flat_map (λ (latch : TheLatch). f Latch (latch_words circuit.timing latch)) circuit.latches ≡ of_latches → flat_map (λ (placed : Placed). f Gate (gate_words placed)) gates ≡ of_gates
    → flat_map (λ (table : Table). f Names (names_words table)) circuit.tables ≡ of_tables → f End [] ≡ []
    → of_lines f (numbered 1 (own_lines gates circuit)) ≡ f Model (circuit.name ∷ []) ++ (f Inputs circuit.inputs ++ (f Outputs circuit.outputs ++ (of_clocks ++ (of_latches ++ (of_gates ++ of_tables)))))
parts_are f gates circuit of_clocks of_latches of_gates of_tables none k a g b c =
    lines_say f gates circuit none ∙ rw (k, a, g, b, stop_said f circuit.dont_care c, append-nil of_tables) refl

none_said : {A B : Type 0} (f : A → List B) (xs : List A) → ((x : A) → f x ≡ []) → flat_map f xs ≡ []
none_said f [] h = refl
none_said f (x ∷ xs) h = ap (λ ys. ys ++ flat_map f xs) (h x) ∙ none_said f xs h

no_latches : {A : Type 0} (f : List (List ℕ) → List A) (timing : Option Timing) (latches : List TheLatch) → ((latch : TheLatch) → f (latch_words timing latch) ≡ []) → flat_map (λ (latch : TheLatch). f (latch_words timing latch)) latches ≡ []
no_latches f timing latches h = none_said (λ (latch : TheLatch). f (latch_words timing latch)) latches h

no_gates : {A : Type 0} (f : List (List ℕ) → List A) (gates : List Placed) → ((words : List (List ℕ)) → f words ≡ []) → flat_map (λ (placed : Placed). f (gate_words placed)) gates ≡ []
no_gates f gates h = none_said (λ (placed : Placed). f (gate_words placed)) gates (λ placed. h (gate_words placed))

no_tables : {A : Type 0} (f : List (List ℕ) → List A) (tables : List Table) → ((table : Table) → f (names_words table) ≡ []) → flat_map (λ (table : Table). f (names_words table)) tables ≡ []
no_tables f tables h = none_said (λ (table : Table). f (names_words table)) tables h

-- all lines, and those of the model
abbrev pub lines_of : List Placed → Circuit → List Entry
lines_of gates circuit = numbered 1 (lines_with_gates gates circuit)

abbrev pub own_of : List Placed → Circuit → List Entry
own_of gates circuit = numbered 1 (own_lines gates circuit)

pub listed_inputs_said : (gates : List Placed) (circuit : Circuit) → of_lines listed_inputs (own_of gates circuit) ≡ circuit.inputs
listed_inputs_said gates circuit =
    parts_are listed_inputs gates circuit [] [] [] [] (λ words. refl) (no_clocks listed_inputs circuit.clocks (λ words. refl)) (no_latches (listed_inputs Latch) circuit.timing circuit.latches (λ latch. refl)) (no_gates (listed_inputs Gate) gates (λ words. refl)) (no_tables (listed_inputs Names) circuit.tables (λ table. refl)) refl
    ∙ append-nil circuit.inputs

pub listed_outputs_said : (gates : List Placed) (circuit : Circuit) → of_lines listed_outputs (own_of gates circuit) ≡ circuit.outputs
listed_outputs_said gates circuit =
    parts_are listed_outputs gates circuit [] [] [] [] (λ words. refl) (no_clocks listed_outputs circuit.clocks (λ words. refl)) (no_latches (listed_outputs Latch) circuit.timing circuit.latches (λ latch. refl)) (no_gates (listed_outputs Gate) gates (λ words. refl)) (no_tables (listed_outputs Names) circuit.tables (λ table. refl)) refl
    ∙ append-nil circuit.outputs

inputs_listed : (gates : List Placed) (circuit : Circuit) → lists_inputs (own_of gates circuit) ≡ true
unfolding lists_inputs own_lines numbered kind_of keyword_of
inputs_listed gates circuit = refl

outputs_listed : (gates : List Placed) (circuit : Circuit) → lists_outputs (own_of gates circuit) ≡ true
unfolding lists_outputs own_lines numbered kind_of keyword_of
outputs_listed gates circuit = refl

pub inputs_said : (library : Option (List TheGate)) (gates : List Placed) (circuit : Circuit) → inputs_in library (own_of gates circuit) ≡ circuit.inputs
unfolding inputs_in
inputs_said library gates circuit =
    ap (λ (b : Bool). listed_or b (of_lines listed_inputs (own_of gates circuit)) (names_beside (drives_in library (own_of gates circuit)) (reads_within library (own_of gates circuit)))) (inputs_listed gates circuit) ∙ listed_inputs_said gates circuit

pub outputs_said : (library : Option (List TheGate)) (gates : List Placed) (circuit : Circuit) → outputs_in library (own_of gates circuit) ≡ circuit.outputs
unfolding outputs_in
outputs_said library gates circuit =
    ap (λ (b : Bool). listed_or b (of_lines listed_outputs (own_of gates circuit)) (names_beside (reads_within library (own_of gates circuit)) (drives_in library (own_of gates circuit)))) (outputs_listed gates circuit) ∙ listed_outputs_said gates circuit

pub ports_said : (gates : List Placed) (circuit : Circuit) → ports_in (own_of gates circuit) ≡ circuit.inputs ++ circuit.outputs
unfolding ports_in
ports_said gates circuit =
    parts_are listed_ports gates circuit [] [] [] [] (λ words. refl) (no_clocks listed_ports circuit.clocks (λ words. refl)) (no_latches (listed_ports Latch) circuit.timing circuit.latches (λ latch. refl)) (no_gates (listed_ports Gate) gates (λ words. refl)) (no_tables (listed_ports Names) circuit.tables (λ table. refl)) refl
    ∙ ap (λ more. circuit.inputs ++ more) (append-nil circuit.outputs)

clocks_back : (clocks : List (List ℕ)) → said listed_clocks (clock_lines clocks) ≡ clocks
unfolding keyword_of clock_lines
clocks_back [] = refl
clocks_back (clock ∷ clocks) = append-nil (clock ∷ clocks)

pub clocks_said : (gates : List Placed) (circuit : Circuit) → clocks_in (own_of gates circuit) ≡ circuit.clocks
unfolding clocks_in
clocks_said gates circuit =
    parts_are listed_clocks gates circuit circuit.clocks [] [] [] (λ words. refl) (clocks_back circuit.clocks) (no_latches (listed_clocks Latch) circuit.timing circuit.latches (λ latch. refl)) (no_gates (listed_clocks Gate) gates (λ words. refl)) (no_tables (listed_clocks Names) circuit.tables (λ table. refl)) refl
    ∙ append-nil circuit.clocks

latches_drive : (library : Option (List TheGate)) (timing : Option Timing) (latches : List TheLatch) → flat_map (λ (latch : TheLatch). driven_by library Latch (latch_words timing latch)) latches ≡ map (λ (latch : TheLatch). latch.output) latches
latches_drive library timing [] = refl
latches_drive library timing (latch ∷ latches) = ap (λ more. latch.output ∷ more) (latches_drive library timing latches)

tables_drive : (library : Option (List TheGate)) (tables : List Table) → flat_map (λ (table : Table). driven_by library Names (names_words table)) tables ≡ outputs_of tables
tables_drive library [] = refl
tables_drive library (table ∷ tables) =
    ap (λ name. name ∷ flat_map (λ (table : Table). driven_by library Names (names_words table)) tables) (output_back table) ∙ ap (λ more. table.output ∷ more) (tables_drive library tables)

-- the tables that the lines of gates say
abbrev pub said_tables : Option (List TheGate) → List Placed → List Table
said_tables library gates = flat_map (λ (placed : Placed). gate_tables library (gate_words placed)) gates

gates_drive : (library : Option (List TheGate)) (gates : List Placed) → flat_map (λ (placed : Placed). driven_by library Gate (gate_words placed)) gates ≡ outputs_of (said_tables library gates)
gates_drive library [] = refl
gates_drive library (placed ∷ gates) =
    ap (λ more. outputs_of (gate_tables library (gate_words placed)) ++ more) (gates_drive library gates)
    ∙ sym (map-append (λ (table : Table). table.output) (gate_tables library (gate_words placed)) (said_tables library gates))

pub drives_said : (library : Option (List TheGate)) (gates : List Placed) (circuit : Circuit) → drives_in library (own_of gates circuit) ≡ latch_outputs circuit ++ (outputs_of (said_tables library gates) ++ outputs_of circuit.tables)
unfolding drives_in
drives_said library gates circuit =
    parts_are (driven_by library) gates circuit [] (latch_outputs circuit) (outputs_of (said_tables library gates)) (outputs_of circuit.tables) (λ words. refl) (no_clocks (driven_by library) circuit.clocks (λ words. refl))
    (latches_drive library circuit.timing circuit.latches) (gates_drive library gates) (tables_drive library circuit.tables) refl

latches_read : (library : Option (List TheGate)) (timing : Option Timing) (latches : List TheLatch) → flat_map (λ (latch : TheLatch). read_by library Latch (latch_words timing latch)) latches ≡ map (λ (latch : TheLatch). latch.input) latches
latches_read library timing [] = refl
latches_read library timing (latch ∷ latches) = ap (λ more. latch.input ∷ more) (latches_read library timing latches)

tables_read : (library : Option (List TheGate)) (tables : List Table) → flat_map (λ (table : Table). read_by library Names (names_words table)) tables ≡ table_inputs tables
tables_read library [] = refl
tables_read library (table ∷ tables) =
    ap (λ names. names ++ flat_map (λ (table : Table). read_by library Names (names_words table)) tables) (inputs_back table) ∙ ap (λ more. table.inputs ++ more) (tables_read library tables)

-- the signals that the lines of gates read
abbrev pub said_reads : Option (List TheGate) → List Placed → List (List ℕ)
said_reads library gates = flat_map (λ (placed : Placed). gate_inputs library (gate_words placed)) gates

pub reads_said : (library : Option (List TheGate)) (gates : List Placed) (circuit : Circuit) → reads_in library (own_of gates circuit) ≡ circuit.outputs ++ (latch_inputs circuit ++ (said_reads library gates ++ table_inputs circuit.tables))
unfolding reads_in
reads_said library gates circuit =
    parts_are (read_by library) gates circuit [] (latch_inputs circuit) (said_reads library gates) (table_inputs circuit.tables) (λ words. refl) (no_clocks (read_by library) circuit.clocks (λ words. refl))
    (latches_read library circuit.timing circuit.latches) refl (tables_read library circuit.tables) refl

init_back : (init : ℕ) → init ≤ 3 → slice_index (init_word init) 0 - 48 ≡ init
init_back zero h = refl
init_back (suc zero) h = refl
init_back (suc (suc zero)) h = refl
init_back (suc (suc (suc init))) h = omega (arith, h)

init_last : (timing : Option Timing) (init : ℕ) → init ≤ 3 → init_of (timing_words timing ++ init_word init ∷ []) ≡ init
unfolding timing_words
init_last None init h = init_back init h
init_last (Some timing) init h = init_back init h

latches_back : (timing : Option Timing) (latches : List TheLatch) → AllByRecursion (λ (latch : TheLatch). latch.init ≤ 3) latches → flat_map (λ (latch : TheLatch). latches_by Latch (latch_words timing latch)) latches ≡ latches
latches_back timing [] h = refl
latches_back timing (latch ∷ latches) h =
    ap (λ (init : ℕ). record latch { init = init } ∷ flat_map (λ (latch : TheLatch). latches_by Latch (latch_words timing latch)) latches) (init_last timing latch.init h.0)
    ∙ ap (λ more. latch ∷ more) (latches_back timing latches h.1)

pub latches_said_back : (gates : List Placed) (circuit : Circuit) → AllByRecursion (λ (latch : TheLatch). latch.init ≤ 3) circuit.latches → latches_in (own_of gates circuit) ≡ circuit.latches
unfolding latches_in
latches_said_back gates circuit h =
    parts_are latches_by gates circuit [] circuit.latches [] [] (λ words. refl) (no_clocks latches_by circuit.clocks (λ words. refl)) (latches_back circuit.timing circuit.latches h) (no_gates (latches_by Gate) gates (λ words. refl)) (no_tables (latches_by Names) circuit.tables (λ table. refl)) refl
    ∙ append-nil circuit.latches

abbrev timing_with : Kind → Option (List ℕ) → Timing
timing_with kind control = record { kind = kind; control = control }

-- the lines of latches say the timing
abbrev pub SaysTiming : Option Timing → List Entry → Type 0
SaysTiming timing lines = AllByRecursion (λ (line : Entry). timing_at line ≡ timing) (latch_lines lines)

kind_back : (kind : Kind) → kind_by (kind_word kind) ≡ kind
kind_back Fe = refl
kind_back Re = refl
kind_back Ah = refl
kind_back Al = refl

control_back : (control : Option (List ℕ)) → has (option_to_list control) (codes "NIL") ≡ false → control_by (control_word control) ≡ control
control_back None h = refl
control_back (Some control) h =
    let other : bytes_eq control (codes "NIL") ≡ false = bytes_eq-sym control (codes "NIL") ∙ left (bytes_eq (codes "NIL") control) h in
    ap (λ (b : Bool). if b then None else Some control) other
  where
    left : (b : Bool) → (b || false) ≡ false → b ≡ false
    left true e = e
    left false e = refl

timing_back : (timing : Option Timing) (latch : TheLatch) → has (control_of timing) (codes "NIL") ≡ false → timing_of (latch_words timing latch) ≡ timing
unfolding timing_words
timing_back None latch h = refl
timing_back (Some timing) latch h = ap Some (same (kind_by (kind_word timing.kind)) (control_by (control_word timing.control)) (kind_back timing.kind) (control_back timing.control h))
  where
    same : (kind : Kind) (control : Option (List ℕ)) → kind ≡ timing.kind → control ≡ timing.control → timing_with kind control ≡ timing
    same kind control a b = rw (a, b) refl

timed_other : (timing : Option Timing) (kind : Keyword) (line : Written) (rest : List Written) → keyword_of line.first ≡ kind → is_latch_line kind ≡ false → ((number : ℕ) → SaysTiming timing (numbered number rest)) → (number : ℕ) → SaysTiming timing (numbered number (line ∷ rest))
unfolding numbered kind_of
timed_other timing kind line rest e other h number =
    subst (AllByRecursion (λ (line : Entry). timing_at line ≡ timing)) (sym (ap (λ (b : Bool). if b then entry number line ∷ latch_lines (numbered (number + 1) rest) else latch_lines (numbered (number + 1) rest)) (ap is_latch_line e ∙ other))) (h (number + 1))

timed_latches : (timing : Option Timing) (latches : List TheLatch) (rest : List Written) → has (control_of timing) (codes "NIL") ≡ false → ((number : ℕ) → SaysTiming timing (numbered number rest)) → (number : ℕ) → SaysTiming timing (numbered number (map (latch_line timing) latches ++ rest))
unfolding numbered kind_of keyword_of latch_line
timed_latches timing [] rest nil h number = h number
timed_latches timing (latch ∷ latches) rest nil h number = (timing_back timing latch nil, timed_latches timing latches rest nil h (number + 1))

timed_rows : (timing : Option Timing) (phase : Bool) (rows : List (List Tri)) (rest : List Written) → ((number : ℕ) → SaysTiming timing (numbered number rest)) → (number : ℕ) → SaysTiming timing (numbered number (map (row_line phase) rows ++ rest))
timed_rows timing phase [] rest h = h
timed_rows timing phase (row ∷ rows) rest h = timed_other timing Row (row_line phase row) (map (row_line phase) rows ++ rest) (row_kind phase row) refl (timed_rows timing phase rows rest h)

timed_tables : (timing : Option Timing) (tables : List Table) (rest : List Written) → ((number : ℕ) → SaysTiming timing (numbered number rest)) → (number : ℕ) → SaysTiming timing (numbered number (flat_map table_lines tables ++ rest))
unfolding table_lines keyword_of
timed_tables timing [] rest h number = h number
timed_tables timing (table ∷ tables) rest h number =
    subst (λ (lines : List Written). SaysTiming timing (numbered number lines)) (sym (append_assoc (table_lines table) (flat_map table_lines tables) rest))
    (timed_other timing Names (dotted (codes ".names") (names_words table)) (map (row_line table.phase) table.rows ++ (flat_map table_lines tables ++ rest)) refl refl
    (timed_rows timing table.phase table.rows (flat_map table_lines tables ++ rest) (timed_tables timing tables rest h)) number)

timed_gates : (timing : Option Timing) (gates : List Placed) (rest : List Written) → ((number : ℕ) → SaysTiming timing (numbered number rest)) → (number : ℕ) → SaysTiming timing (numbered number (map gate_line gates ++ rest))
unfolding gate_line keyword_of
timed_gates timing [] rest h = h
timed_gates timing (placed ∷ gates) rest h = timed_other timing Gate (gate_line placed) (map gate_line gates ++ rest) refl refl (timed_gates timing gates rest h)

timed_stop : (timing : Option Timing) (part : List Table) (number : ℕ) → SaysTiming timing (numbered number (stop_lines part))
unfolding numbered kind_of keyword_of
timed_stop timing [] number = tt
timed_stop timing (table ∷ part) number = tt

timed_clocks : (timing : Option Timing) (clocks : List (List ℕ)) (rest : List Written) → ((number : ℕ) → SaysTiming timing (numbered number rest)) → (number : ℕ) → SaysTiming timing (numbered number (clock_lines clocks ++ rest))
unfolding clock_lines keyword_of
timed_clocks timing [] rest h = h
timed_clocks timing (clock ∷ clocks) rest h = timed_other timing Clock (dotted (codes ".clock") (clock ∷ clocks)) rest refl refl h

pub timing_each : (gates : List Placed) (circuit : Circuit) → has (control_of circuit.timing) (codes "NIL") ≡ false → SaysTiming circuit.timing (own_of gates circuit)
unfolding own_lines keyword_of
timing_each gates circuit nil =
    let tables = flat_map table_lines circuit.tables ++ stop_lines circuit.dont_care in
    let latches = map (latch_line circuit.timing) circuit.latches ++ (map gate_line gates ++ tables) in
    let rest = clock_lines circuit.clocks ++ latches in
    timed_other circuit.timing Model (dotted (codes ".model") (circuit.name ∷ [])) (dotted (codes ".inputs") circuit.inputs ∷ dotted (codes ".outputs") circuit.outputs ∷ rest) refl refl
    (timed_other circuit.timing Inputs (dotted (codes ".inputs") circuit.inputs) (dotted (codes ".outputs") circuit.outputs ∷ rest) refl refl
    (timed_other circuit.timing Outputs (dotted (codes ".outputs") circuit.outputs) rest refl refl
    (timed_clocks circuit.timing circuit.clocks latches (timed_latches circuit.timing circuit.latches (map gate_line gates ++ tables) nil
    (timed_gates circuit.timing gates tables
    (timed_tables circuit.timing circuit.tables (stop_lines circuit.dont_care) (timed_stop circuit.timing circuit.dont_care))))))) 1

-- without lines of latches no latches are said
untimed : (lines : List Entry) → latch_lines lines ≡ [] → latches_in lines ≡ []
unfolding latches_in
untimed [] e = refl
untimed (line ∷ lines) e = by (kind_of line) e (untimed lines)
  where
    by : (kind : Keyword) → (if is_latch_line kind then line ∷ latch_lines lines else latch_lines lines) ≡ [] → (latch_lines lines ≡ [] → of_lines latches_by lines ≡ []) → latches_by kind (other_words line.words) ++ of_lines latches_by lines ≡ []
    by Latch f rec = absurd (cc)
    by Model f rec = rec f
    by Inputs f rec = rec f
    by Outputs f rec = rec f
    by Clock f rec = rec f
    by Names f rec = rec f
    by Gate f rec = rec f
    by Subckt f rec = rec f
    by StartKiss f rec = rec f
    by DontCare f rec = rec f
    by End f rec = rec f
    by Skipped f rec = rec f
    by Row f rec = rec f
    by Other f rec = rec f

first_said : (timing : Option Timing) (lines : List Entry) → AllByRecursion (λ (line : Entry). timing_at line ≡ timing) lines → (lines ≡ [] → timing ≡ None) → first_timing lines ≡ timing
first_said timing [] all none = sym (none refl)
first_said timing (line ∷ lines) all none = all.0

pub timing_said : (gates : List Placed) (circuit : Circuit) → has (control_of circuit.timing) (codes "NIL") ≡ false → AllByRecursion (λ (latch : TheLatch). latch.init ≤ 3) circuit.latches → (circuit.latches ≡ [] → circuit.timing ≡ None) → timing_in (own_of gates circuit) ≡ circuit.timing
unfolding timing_in
timing_said gates circuit nil inits none =
    first_said circuit.timing (latch_lines (own_of gates circuit)) (timing_each gates circuit nil) (λ e. none (sym (latches_said_back gates circuit inits) ∙ untimed (own_of gates circuit) e))

same_kind_self : (kind : Kind) → same_kind kind kind ≡ true
same_kind_self Fe = refl
same_kind_self Re = refl
same_kind_self Ah = refl
same_kind_self Al = refl

same_control_self : (control : Option (List ℕ)) → same_control control control ≡ true
same_control_self None = refl
same_control_self (Some control) = itself control

same_self : (timing : Option Timing) → same_timing timing timing ≡ true
same_self None = refl
same_self (Some timing) = rw (same_kind_self timing.kind, same_control_self timing.control) refl

none_mixed : (timing : Option Timing) (lines : List Entry) → AllByRecursion (λ (line : Entry). timing_at line ≡ timing) lines → find (λ line. not (same_timing timing (timing_at line))) lines ≡ None
none_mixed timing [] all = refl
none_mixed timing (line ∷ lines) all =
    ap (λ (b : Bool). cond (not b) (Some line) (find (λ line. not (same_timing timing (timing_at line))) lines)) (ap (same_timing timing) all.0 ∙ same_self timing)
    ∙ none_mixed timing lines all.1

pub unmixed : (gates : List Placed) (circuit : Circuit) → has (control_of circuit.timing) (codes "NIL") ≡ false → timing_in (own_of gates circuit) ≡ circuit.timing → mixed_clock (own_of gates circuit) ≡ None
unfolding mixed_clock
unmixed gates circuit nil timing =
    ap (λ (one : Option Timing). option_map (λ (line : Entry). line.number) (find (λ line. not (same_timing one (timing_at line))) (latch_lines (own_of gates circuit)))) timing
    ∙ ap (option_map (λ (line : Entry). line.number)) (none_mixed circuit.timing (latch_lines (own_of gates circuit)) (timing_each gates circuit nil))

pub name_said : (gates : List Placed) (circuit : Circuit) → model_name (lines_of gates circuit) ≡ circuit.name
unfolding lines_with_gates numbered kind_of keyword_of model_name
name_said gates circuit = refl

-- lines that have these tables, whatever their numbers; and lines that begin with no row
abbrev HasTables : (library : Option (List TheGate)) → List Written → List Table → Type 0
HasTables library lines tables = (number : ℕ) → tables_in library (numbered number lines) ≡ tables

abbrev BeginsAnew : List Written → Type 0
BeginsAnew lines = (number : ℕ) → take_while is_row (numbered number lines) ≡ []

other_line : (library : Option (List TheGate)) (kind : Keyword) (line : Written) (rest : List Written) (tables : List Table) → keyword_of line.first ≡ kind → ((words rows : List (List ℕ)) → tables_by library kind words rows ≡ []) → HasTables library rest tables → HasTables library (line ∷ rest) tables
unfolding tables_in numbered kind_of
other_line library kind line rest tables e none h number =
    let behind = numbered (number + 1) rest in
    let rows = map (λ (row : Entry). joined row.words) (take_while is_row behind) in
    ap (λ (kind : Keyword). tables_by library kind line.others rows ++ tables_in library behind) e
    ∙ ap (λ (first : List Table). first ++ tables_in library behind) (none line.others rows) ∙ h (number + 1)

rows_passed : (library : Option (List TheGate)) (phase : Bool) (rows : List (List Tri)) (rest : List Written) (tables : List Table) → HasTables library rest tables → HasTables library (map (row_line phase) rows ++ rest) tables
rows_passed library phase [] rest tables h = h
rows_passed library phase (row ∷ rows) rest tables h = other_line library Row (row_line phase row) (map (row_line phase) rows ++ rest) tables (row_kind phase row) (λ words others. refl) (rows_passed library phase rows rest tables h)

latches_passed : (library : Option (List TheGate)) (timing : Option Timing) (latches : List TheLatch) (rest : List Written) (tables : List Table) → HasTables library rest tables → HasTables library (map (latch_line timing) latches ++ rest) tables
unfolding keyword_of latch_line
latches_passed library timing [] rest tables h = h
latches_passed library timing (latch ∷ latches) rest tables h = other_line library Latch (latch_line timing latch) (map (latch_line timing) latches ++ rest) tables refl (λ words rows. refl) (latches_passed library timing latches rest tables h)

clocks_passed : (library : Option (List TheGate)) (clocks : List (List ℕ)) (rest : List Written) (tables : List Table) → HasTables library rest tables → HasTables library (clock_lines clocks ++ rest) tables
unfolding keyword_of clock_lines
clocks_passed library [] rest tables h = h
clocks_passed library (clock ∷ clocks) rest tables h = other_line library Clock (dotted (codes ".clock") (clock ∷ clocks)) rest tables refl (λ words rows. refl) h

rows_behind_it : (phase : Bool) (rows : List (List Tri)) (rest : List Written) (number : ℕ) → BeginsAnew rest → map (λ (row : Entry). joined row.words) (take_while is_row (numbered number (map (row_line phase) rows ++ rest))) ≡ map (row_text phase) rows
unfolding numbered kind_of
rows_behind_it phase [] rest number h = ap (map (λ (row : Entry). joined row.words)) (h number)
rows_behind_it phase (row ∷ rows) rest number h =
    let line = entry number (row_line phase row) in
    let behind = numbered (number + 1) (map (row_line phase) rows ++ rest) in
    ap (map (λ (row : Entry). joined row.words)) (take_while-cons is_row line behind ∙ ap (λ (kind : Keyword). cond (is_row_kind kind) (line ∷ take_while is_row behind) []) (row_kind phase row))
    ∙ ap (λ (text : List ℕ). text ∷ map (λ (row : Entry). joined row.words) (take_while is_row behind)) (row_joined phase row)
    ∙ ap (λ more. row_text phase row ∷ more) (rows_behind_it phase rows rest (number + 1) h)

table_added : (library : Option (List TheGate)) (table : Table) (rest : List Written) (tables : List Table) → IsShaped table → BeginsAnew rest → HasTables library rest tables → HasTables library (table_lines table ++ rest) (table ∷ tables)
unfolding table_lines tables_in numbered kind_of keyword_of
table_added library table rest tables shaped anew h number =
    let behind = numbered (number + 1) (map (row_line table.phase) table.rows ++ rest) in
    ap (λ (rows : List (List ℕ)). table_of (names_words table) rows ∷ tables_in library behind) (rows_behind_it table.phase table.rows rest (number + 1) anew)
    ∙ ap (λ (first : Table). first ∷ tables_in library behind) (table_back table shaped)
    ∙ ap (λ (more : List Table). table ∷ more) (rows_passed library table.phase table.rows rest tables h (number + 1))

ends_anew : (tables : List Table) (rest : List Written) → BeginsAnew rest → BeginsAnew (flat_map table_lines tables ++ rest)
unfolding table_lines numbered kind_of keyword_of
ends_anew [] rest anew number = anew number
ends_anew (table ∷ tables) rest anew number =
    take_while-cons is_row (entry number (dotted (codes ".names") (names_words table))) (numbered (number + 1) ((map (row_line table.phase) table.rows ++ flat_map table_lines tables) ++ rest))

tables_have : (library : Option (List TheGate)) (tables : List Table) (rest : List Written) → AllByRecursion IsShaped tables → BeginsAnew rest → HasTables library rest [] → HasTables library (flat_map table_lines tables ++ rest) tables
tables_have library [] rest h anew none number = none number
tables_have library (table ∷ tables) rest h anew none number =
    ap (λ (lines : List Written). tables_in library (numbered number lines)) (append_assoc (table_lines table) (flat_map table_lines tables) rest)
    ∙ table_added library table (flat_map table_lines tables ++ rest) tables h.0 (ends_anew tables rest anew) (tables_have library tables rest h.1 anew none) number

end_anew : BeginsAnew end_lines
unfolding numbered kind_of keyword_of
end_anew number = take_while-cons is_row (entry number (dotted (codes ".end") [])) []

end_has : (library : Option (List TheGate)) → HasTables library end_lines []
unfolding keyword_of tables_in numbered
end_has library number = other_line library End (dotted (codes ".end") []) [] [] refl (λ words rows. refl) (λ place. refl) number

stop_anew : (part : List Table) → BeginsAnew (stop_lines part)
unfolding numbered
stop_anew [] = end_anew
stop_anew (table ∷ part) = λ number. refl

stop_has : (library : Option (List TheGate)) (part : List Table) → HasTables library (stop_lines part) []
unfolding numbered tables_in
stop_has library [] = end_has library
stop_has library (table ∷ part) = λ number. refl

gates_have : (library : Option (List TheGate)) (gates : List Placed) (rest : List Written) (tables : List Table) → HasTables library rest tables → HasTables library (map gate_line gates ++ rest) (said_tables library gates ++ tables)
unfolding gate_line tables_in numbered kind_of keyword_of
gates_have library [] rest tables h number = h number
gates_have library (placed ∷ gates) rest tables h number =
    ap (λ more. gate_tables library (gate_words placed) ++ more) (gates_have library gates rest tables h (number + 1))
    ∙ sym (append_assoc (gate_tables library (gate_words placed)) (said_tables library gates) tables)

pub tables_said_back : (library : Option (List TheGate)) (gates : List Placed) (circuit : Circuit) → AllByRecursion IsShaped circuit.tables → tables_in library (own_of gates circuit) ≡ said_tables library gates ++ circuit.tables
unfolding own_lines keyword_of
tables_said_back library gates circuit h =
    let stop = stop_lines circuit.dont_care in
    let all = said_tables library gates ++ circuit.tables in
    let tables = flat_map table_lines circuit.tables ++ stop in
    let latches = map (latch_line circuit.timing) circuit.latches ++ (map gate_line gates ++ tables) in
    let rest = clock_lines circuit.clocks ++ latches in
    let of_rest : HasTables library rest all = clocks_passed library circuit.clocks latches all
    (latches_passed library circuit.timing circuit.latches (map gate_line gates ++ tables) all
    (gates_have library gates tables circuit.tables (tables_have library circuit.tables stop h (stop_anew circuit.dont_care) (stop_has library circuit.dont_care)))) in
    other_line library Model (dotted (codes ".model") (circuit.name ∷ [])) (dotted (codes ".inputs") circuit.inputs ∷ dotted (codes ".outputs") circuit.outputs ∷ rest) all refl (λ words rows. refl)
    (other_line library Inputs (dotted (codes ".inputs") circuit.inputs) (dotted (codes ".outputs") circuit.outputs ∷ rest) all refl (λ words rows. refl)
    (other_line library Outputs (dotted (codes ".outputs") circuit.outputs) rest all refl (λ words rows. refl) of_rest)) 1

-- the lines of the model are these, and those of the part are the others
abbrev pub IsNot : (Keyword → Bool) → Written → Type 0
IsNot test line = test (keyword_of line.first) ≡ false

abbrev IsOwn : Written → Type 0
IsOwn = IsNot begins_part

-- the kinds of the lines that are written in the model after its first
abbrev is_own_kind : Keyword → Bool
is_own_kind Inputs = true
is_own_kind Outputs = true
is_own_kind Clock = true
is_own_kind Names = true
is_own_kind Latch = true
is_own_kind Gate = true
is_own_kind End = true
is_own_kind Row = true
is_own_kind kind = false

-- a test that no such kind passes
abbrev pub OnNone : (Keyword → Bool) → Type 0
OnNone test = (kind : Keyword) → is_own_kind kind ≡ true → test kind ≡ false

own_read : (own rest : List Written) → AllByRecursion IsOwn own → ((number : ℕ) → model_lines (numbered number rest) ≡ []) → (number : ℕ) → model_lines (numbered number (own ++ rest)) ≡ numbered number own
unfolding numbered kind_of
own_read [] rest h stop number = stop number
own_read (line ∷ own) rest h stop number =
    own_more (entry number line) (numbered (number + 1) (own ++ rest)) h.0 ∙ ap (λ lines. entry number line ∷ lines) (own_read own rest h.1 stop (number + 1))

part_read : (library : Option (List TheGate)) (own rest : List Written) (tables : List Table) → AllByRecursion IsOwn own → ((number : ℕ) → tables_in library (part_lines (numbered number rest)) ≡ tables) → (number : ℕ) → tables_in library (part_lines (numbered number (own ++ rest))) ≡ tables
unfolding numbered kind_of
part_read library [] rest tables h there number = there number
part_read library (line ∷ own) rest tables h there number =
    ap (tables_in library) (part_later (entry number line) (numbered (number + 1) (own ++ rest)) h.0) ∙ part_read library own rest tables h.1 there (number + 1)

own_rows : (test : Keyword → Bool) → OnNone test → (phase : Bool) (rows : List (List Tri)) → AllByRecursion (IsNot test) (map (row_line phase) rows)
own_rows test none phase [] = tt
own_rows test none phase (row ∷ rows) = (ap test (row_kind phase row) ∙ none Row refl, own_rows test none phase rows)

pub own_tables : (test : Keyword → Bool) → OnNone test → (tables : List Table) → AllByRecursion (IsNot test) (flat_map table_lines tables)
unfolding table_lines keyword_of
own_tables test none [] = tt
own_tables test none (table ∷ tables) =
    all_append (IsNot test) (table_lines table) (flat_map table_lines tables) (none Names refl, own_rows test none table.phase table.rows) (own_tables test none tables)

own_latches : (test : Keyword → Bool) → OnNone test → (timing : Option Timing) (latches : List TheLatch) → AllByRecursion (IsNot test) (map (latch_line timing) latches)
unfolding latch_line keyword_of
own_latches test none timing [] = tt
own_latches test none timing (latch ∷ latches) = (none Latch refl, own_latches test none timing latches)

own_gates : (test : Keyword → Bool) → OnNone test → (gates : List Placed) → AllByRecursion (IsNot test) (map gate_line gates)
unfolding gate_line keyword_of
own_gates test none [] = tt
own_gates test none (placed ∷ gates) = (none Gate refl, own_gates test none gates)

own_clocks : (test : Keyword → Bool) → OnNone test → (clocks : List (List ℕ)) → AllByRecursion (IsNot test) (clock_lines clocks)
unfolding clock_lines keyword_of
own_clocks test none [] = tt
own_clocks test none (clock ∷ clocks) = (none Clock refl, tt)

own_stop : (test : Keyword → Bool) → OnNone test → (part : List Table) → AllByRecursion (IsNot test) (stop_lines part)
unfolding keyword_of
own_stop test none [] = (none End refl, tt)
own_stop test none (table ∷ part) = tt

pub own_behind : (test : Keyword → Bool) → OnNone test → (gates : List Placed) (circuit : Circuit) → AllByRecursion (IsNot test) (drop 1 (own_lines gates circuit))
unfolding own_lines keyword_of
own_behind test none gates circuit =
    let stop = stop_lines circuit.dont_care in
    let tables = flat_map table_lines circuit.tables in
    let cells = map gate_line gates in
    let latches = map (latch_line circuit.timing) circuit.latches in (
      none Inputs refl,
      (
        none Outputs refl,
        all_append (IsNot test) (clock_lines circuit.clocks) (latches ++ (cells ++ (tables ++ stop))) (own_clocks test none circuit.clocks)
            (all_append (IsNot test) latches (cells ++ (tables ++ stop)) (own_latches test none circuit.timing circuit.latches)
            (all_append (IsNot test) cells (tables ++ stop) (own_gates test none gates)
            (all_append (IsNot test) tables stop (own_tables test none circuit.tables) (own_stop test none circuit.dont_care)))),
      ),
    )

pub all_own : (test : Keyword → Bool) → test Model ≡ false → OnNone test → (gates : List Placed) (circuit : Circuit) → AllByRecursion (IsNot test) (own_lines gates circuit)
unfolding own_lines keyword_of
all_own test first none gates circuit = (first, own_behind test none gates circuit)

begins_none : OnNone begins_part
begins_none Model e = refl
begins_none Inputs e = refl
begins_none Outputs e = refl
begins_none Clock e = refl
begins_none Names e = refl
begins_none Latch e = refl
begins_none Gate e = refl
begins_none Subckt e = refl
begins_none StartKiss e = refl
begins_none DontCare e = absurd (cc)
begins_none End e = refl
begins_none Skipped e = refl
begins_none Row e = refl
begins_none Other e = refl

stops : (part : List Table) (number : ℕ) → model_lines (numbered number (part_written part)) ≡ []
unfolding numbered kind_of keyword_of model_lines
stops [] number = refl
stops (table ∷ part) number = own_ends (entry number (dotted (codes ".exdc") [])) (numbered (number + 1) (flat_map table_lines (table ∷ part) ++ end_lines)) refl

part_back : (library : Option (List TheGate)) (part : List Table) → AllByRecursion IsShaped part → (number : ℕ) → tables_in library (part_lines (numbered number (part_written part))) ≡ part
unfolding numbered kind_of keyword_of part_lines model_lines tables_in
part_back library [] h number = refl
part_back library (table ∷ part) h number =
    ap (tables_in library) (part_here (entry number (dotted (codes ".exdc") [])) (numbered (number + 1) (flat_map table_lines (table ∷ part) ++ end_lines)) refl)
    ∙ other_line library DontCare (dotted (codes ".exdc") []) (flat_map table_lines (table ∷ part) ++ end_lines) (table ∷ part) refl (λ words rows. refl) (tables_have library (table ∷ part) end_lines h end_anew (end_has library)) number

pub model_said : (gates : List Placed) (circuit : Circuit) → model_lines (lines_of gates circuit) ≡ own_of gates circuit
model_said gates circuit =
    ap (λ (lines : List Written). model_lines (numbered 1 lines)) (lines_split gates circuit)
    ∙ own_read (own_lines gates circuit) (part_written circuit.dont_care) (all_own begins_part refl begins_none gates circuit) (stops circuit.dont_care) 1

pub part_said : (library : Option (List TheGate)) (gates : List Placed) (circuit : Circuit) → AllByRecursion IsShaped circuit.dont_care → tables_in library (part_lines (lines_of gates circuit)) ≡ circuit.dont_care
part_said library gates circuit h =
    ap (λ (lines : List Written). tables_in library (part_lines (numbered 1 lines))) (lines_split gates circuit)
    ∙ part_read library (own_lines gates circuit) (part_written circuit.dont_care) circuit.dont_care (all_own begins_part refl begins_none gates circuit) (part_back library circuit.dont_care h) 1

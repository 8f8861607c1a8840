-- The names of a circuit part by part, and that its lines are made of words, with gates before its
-- tables.
use Rattle.std.proofs.Common.{◌≡◌, ℕ, zero, suc, Bool, true, false, Option, Some, None, List, [], ◌∷◌, ◌++◌, refl, sym, ap, ◌∙◌, map, flat_map, codes}
use Rattle.std.specs.Prelude.{option_to_list}
use Rattle.std.proofs.lemmas.List.{append_assoc, append-nil}
use Rattle.std.specs.List.{All, AllByRecursion}
use Rattle.std.proofs.lemmas.List.Elements.{All-from_recursion}
use Rattle.sis_base.specs.Written.{is_word, Written}
use Rattle.sis_text.specs.Written.{IsLineOfWords}
use Rattle.circuit_model.specs.declared.circuit.Tri.{Tri}
use Rattle.circuit_model.specs.declared.circuit.Kind.{Kind}
use Rattle.circuit_model.specs.declared.circuit.Kind.TheVariants.{Fe, Re, Ah, Al}
use Rattle.circuit_model.specs.declared.circuit.Timing.{Timing}
use Rattle.circuit_model.specs.declared.circuit.Table.{Table}
use Rattle.circuit_model.specs.declared.circuit.Latch.{Latch}
use Rattle.circuit_model.specs.declared.circuit.Circuit.{Circuit}
use Rattle.circuit_model.specs.Runs.{latch_outputs}
use Rattle.circuit_model.specs.Soundness.{all_names, control_of, latch_inputs, names_of}
use Rattle.circuit_model.specs.Text.{dotted, character, digit_of_phase, row_line, table_lines, init_word, kind_word, control_word, timing_words, latch_line, clock_lines, dont_care_lines}
use Rattle.netlist.specs.Lines.{pair_word, gate_line, lines_with_gates}
use Rattle.netlist.specs.declared.mapped.Placed.{Placed}
use Rattle.blif_lines.proofs.NameLists.{all_front, all_back, all_append}
use Rattle.kiss_format.proofs.Trip.{characters_plain}

-- a fact of each name of a circuit, part by part
abbrev pub OfLatch : (List ℕ → Type 0) → Latch → Type 0
OfLatch P latch = P latch.input × P latch.output

abbrev pub OfTable : (List ℕ → Type 0) → Table → Type 0
OfTable P table = P table.output × AllByRecursion P table.inputs

pub record OfNames (P : List ℕ → Type 0) (circuit : Circuit) : Type 0 where
  pub name : P circuit.name
  pub inputs : AllByRecursion P circuit.inputs
  pub outputs : AllByRecursion P circuit.outputs
  pub clocks : AllByRecursion P circuit.clocks
  pub timing : AllByRecursion P (control_of circuit.timing)
  pub latches : AllByRecursion (OfLatch P) circuit.latches
  pub tables : AllByRecursion (OfTable P) circuit.tables
  pub dont_care : AllByRecursion (OfTable P) circuit.dont_care

of_latches : (P : List ℕ → Type 0) (latches : List Latch) → AllByRecursion P (map (λ (latch : Latch). latch.output) latches) → AllByRecursion P (map (λ (latch : Latch). latch.input) latches) → AllByRecursion (OfLatch P) latches
of_latches P [] h k = tt
of_latches P (latch ∷ latches) h k = ((k.0, h.0), of_latches P latches h.1 k.1)

of_tables : (P : List ℕ → Type 0) (tables : List Table) → AllByRecursion P (names_of tables) → AllByRecursion (OfTable P) tables
of_tables P [] h = tt
of_tables P (table ∷ tables) h =
    ((h.0, all_front P table.inputs (names_of tables) h.1), of_tables P tables (all_back P table.inputs (names_of tables) h.1))

pub of_names : (P : List ℕ → Type 0) (circuit : Circuit) → AllByRecursion P (all_names circuit) → OfNames P circuit
unfolding all_names
of_names P circuit h =
    let after_inputs = all_back P circuit.inputs (circuit.outputs ++ (circuit.clocks ++ (control_of circuit.timing ++ (latch_outputs circuit ++ (latch_inputs circuit ++ (names_of circuit.tables ++ names_of circuit.dont_care)))))) h.1 in
    let after_outputs = all_back P circuit.outputs (circuit.clocks ++ (control_of circuit.timing ++ (latch_outputs circuit ++ (latch_inputs circuit ++ (names_of circuit.tables ++ names_of circuit.dont_care))))) after_inputs in
    let after_clocks = all_back P circuit.clocks (control_of circuit.timing ++ (latch_outputs circuit ++ (latch_inputs circuit ++ (names_of circuit.tables ++ names_of circuit.dont_care)))) after_outputs in
    let of_parts = all_back P (control_of circuit.timing) (latch_outputs circuit ++ (latch_inputs circuit ++ (names_of circuit.tables ++ names_of circuit.dont_care))) after_clocks in
    let after_driven = all_back P (latch_outputs circuit) (latch_inputs circuit ++ (names_of circuit.tables ++ names_of circuit.dont_care)) of_parts in
    let of_all_tables = all_back P (latch_inputs circuit) (names_of circuit.tables ++ names_of circuit.dont_care) after_driven in
    record {
      name = h.0;
      inputs = all_front P circuit.inputs (circuit.outputs ++ (circuit.clocks ++ (control_of circuit.timing ++ (latch_outputs circuit ++ (latch_inputs circuit ++ (names_of circuit.tables ++ names_of circuit.dont_care)))))) h.1;
      outputs = all_front P circuit.outputs (circuit.clocks ++ (control_of circuit.timing ++ (latch_outputs circuit ++ (latch_inputs circuit ++ (names_of circuit.tables ++ names_of circuit.dont_care))))) after_inputs;
      clocks = all_front P circuit.clocks (control_of circuit.timing ++ (latch_outputs circuit ++ (latch_inputs circuit ++ (names_of circuit.tables ++ names_of circuit.dont_care)))) after_outputs;
      timing = all_front P (control_of circuit.timing) (latch_outputs circuit ++ (latch_inputs circuit ++ (names_of circuit.tables ++ names_of circuit.dont_care))) after_clocks;
      latches = of_latches P circuit.latches (all_front P (latch_outputs circuit) (latch_inputs circuit ++ (names_of circuit.tables ++ names_of circuit.dont_care)) of_parts) (all_front P (latch_inputs circuit) (names_of circuit.tables ++ names_of circuit.dont_care) after_driven);
      tables = of_tables P circuit.tables (all_front P (names_of circuit.tables) (names_of circuit.dont_care) of_all_tables);
      dont_care = of_tables P circuit.dont_care (all_back P (names_of circuit.tables) (names_of circuit.dont_care) of_all_tables);
    }

-- the last line, where there is no don't-care part; and that part with the last line
abbrev pub end_lines : List Written
end_lines = dotted (codes ".end") [] ∷ []

abbrev pub stop_lines : List Table → List Written
stop_lines [] = end_lines
stop_lines (table ∷ tables) = []

abbrev pub part_written : List Table → List Written
part_written [] = []
part_written (table ∷ tables) = dotted (codes ".exdc") [] ∷ flat_map table_lines (table ∷ tables) ++ end_lines

-- the words of a gate's line after the first
abbrev pub gate_words : Placed → List (List ℕ)
gate_words placed = placed.cell ∷ map pair_word placed.pins

-- the lines of the model itself, with gates before its tables
unfoldable pub own_lines : List Placed → Circuit → List Written
own_lines gates circuit =
    dotted (codes ".model") (circuit.name ∷ []) ∷ dotted (codes ".inputs") circuit.inputs ∷ dotted (codes ".outputs") circuit.outputs
    ∷ clock_lines circuit.clocks ++ (map (latch_line circuit.timing) circuit.latches ++ (map gate_line gates ++ (flat_map table_lines circuit.tables ++ stop_lines circuit.dont_care)))

split : (clocks latches gates tables : List Written) (part : List Table) → clocks ++ (latches ++ (gates ++ (tables ++ (dont_care_lines part ++ end_lines)))) ≡ (clocks ++ (latches ++ (gates ++ (tables ++ stop_lines part)))) ++ part_written part
unfolding dont_care_lines
split clocks latches gates tables [] = sym (append-nil (clocks ++ (latches ++ (gates ++ (tables ++ end_lines)))))
split clocks latches gates tables (table ∷ part) =
    let rest = part_written (table ∷ part) in
    sym (append_assoc clocks (latches ++ (gates ++ (tables ++ []))) rest
    ∙ ap (λ more. clocks ++ more) (append_assoc latches (gates ++ (tables ++ [])) rest
    ∙ ap (λ more. latches ++ more) (append_assoc gates (tables ++ []) rest ∙ ap (λ more. gates ++ more) (append_assoc tables [] rest))))

pub lines_split : (gates : List Placed) (circuit : Circuit) → lines_with_gates gates circuit ≡ own_lines gates circuit ++ part_written circuit.dont_care
unfolding lines_with_gates own_lines
lines_split gates circuit =
    ap (λ (more : List Written). dotted (codes ".model") (circuit.name ∷ []) ∷ dotted (codes ".inputs") circuit.inputs ∷ dotted (codes ".outputs") circuit.outputs ∷ more)
    (split (clock_lines circuit.clocks) (map (latch_line circuit.timing) circuit.latches) (map gate_line gates) (flat_map table_lines circuit.tables) circuit.dont_care)

-- each line is made of words
abbrev pub IsName : List ℕ → Type 0
IsName name = is_word name ≡ true

init_is_word : (init : ℕ) → is_word (init_word init) ≡ true
unfolding is_word
init_is_word zero = refl
init_is_word (suc zero) = refl
init_is_word (suc (suc zero)) = refl
init_is_word (suc (suc (suc init))) = refl

digit_is_word : (phase : Bool) → is_word (digit_of_phase phase) ≡ true
unfolding is_word
digit_is_word true = refl
digit_is_word false = refl

row_is_word : (place : Tri) (row : List Tri) → is_word (map character (place ∷ row)) ≡ true
unfolding is_word
row_is_word place row = characters_plain (place ∷ row)

abbrev HasWords : Written → Type 0
HasWords line = AllByRecursion IsName (line.first ∷ line.others)

row_words : (phase : Bool) (row : List Tri) → HasWords (row_line phase row)
unfolding row_line
row_words phase [] = (digit_is_word phase, tt)
row_words phase (place ∷ row) = (row_is_word place row, (digit_is_word phase, tt))

rows_words : (phase : Bool) (rows : List (List Tri)) → AllByRecursion HasWords (map (row_line phase) rows)
rows_words phase [] = tt
rows_words phase (row ∷ rows) = (row_words phase row, rows_words phase rows)

table_words : (table : Table) → OfTable IsName table → AllByRecursion HasWords (table_lines table)
unfolding table_lines is_word
table_words table h = ((refl, all_append IsName table.inputs (table.output ∷ []) h.1 (h.0, tt)), rows_words table.phase table.rows)

tables_words : (tables : List Table) → AllByRecursion (OfTable IsName) tables → AllByRecursion HasWords (flat_map table_lines tables)
tables_words [] h = tt
tables_words (table ∷ tables) h = all_append HasWords (table_lines table) (flat_map table_lines tables) (table_words table h.0) (tables_words tables h.1)

kind_is_word : (kind : Kind) → is_word (kind_word kind) ≡ true
unfolding is_word
kind_is_word Fe = refl
kind_is_word Re = refl
kind_is_word Ah = refl
kind_is_word Al = refl

control_is_word : (control : Option (List ℕ)) → AllByRecursion IsName (option_to_list control) → is_word (control_word control) ≡ true
unfolding is_word
control_is_word None h = refl
control_is_word (Some control) h = h.0

timing_are_words : (timing : Option Timing) → AllByRecursion IsName (control_of timing) → AllByRecursion IsName (timing_words timing)
unfolding timing_words
timing_are_words None h = tt
timing_are_words (Some timing) h = (kind_is_word timing.kind, (control_is_word timing.control h, tt))

latches_words : (timing : Option Timing) (latches : List Latch) → AllByRecursion IsName (control_of timing) → AllByRecursion (OfLatch IsName) latches → AllByRecursion HasWords (map (latch_line timing) latches)
unfolding is_word latch_line
latches_words timing [] t h = tt
latches_words timing (latch ∷ latches) t h =
    ((refl, (h.0.0, (h.0.1, all_append IsName (timing_words timing) (init_word latch.init ∷ []) (timing_are_words timing t) (init_is_word latch.init, tt)))), latches_words timing latches t h.1)

clocks_words : (clocks : List (List ℕ)) → AllByRecursion IsName clocks → AllByRecursion HasWords (clock_lines clocks)
unfolding is_word clock_lines
clocks_words [] h = tt
clocks_words (clock ∷ clocks) h = ((refl, h), tt)

part_words : (tables : List Table) → AllByRecursion (OfTable IsName) tables → AllByRecursion HasWords (dont_care_lines tables)
unfolding is_word dont_care_lines
part_words [] h = tt
part_words (table ∷ tables) h = ((refl, tt), tables_words (table ∷ tables) h)

abbrev pub HasGateWords : Placed → Type 0
HasGateWords placed = AllByRecursion IsName (gate_words placed)

gates_words : (gates : List Placed) → AllByRecursion HasGateWords gates → AllByRecursion HasWords (map gate_line gates)
unfolding is_word gate_line
gates_words [] h = tt
gates_words (placed ∷ gates) h = ((refl, h.0), gates_words gates h.1)

all_words : (gates : List Placed) (circuit : Circuit) → AllByRecursion HasGateWords gates → OfNames IsName circuit → AllByRecursion HasWords (lines_with_gates gates circuit)
unfolding lines_with_gates is_word
all_words gates circuit of_gates h =
    let latches = map (latch_line circuit.timing) circuit.latches in
    let cells = map gate_line gates in
    let tables = flat_map table_lines circuit.tables in
    let part = dont_care_lines circuit.dont_care in (
      (refl, (h.name, tt)),
      (
        (refl, h.inputs),
        (
          (refl, h.outputs),
          all_append HasWords (clock_lines circuit.clocks) (latches ++ (cells ++ (tables ++ (part ++ end_lines)))) (clocks_words circuit.clocks h.clocks)
              (all_append HasWords latches (cells ++ (tables ++ (part ++ end_lines))) (latches_words circuit.timing circuit.latches h.timing h.latches)
              (all_append HasWords cells (tables ++ (part ++ end_lines)) (gates_words gates of_gates)
              (all_append HasWords tables (part ++ end_lines) (tables_words circuit.tables h.tables)
              (all_append HasWords part end_lines (part_words circuit.dont_care h.dont_care) ((refl, tt), tt))))),
        ),
      ),
    )

written : (lines : List Written) → AllByRecursion HasWords lines → AllByRecursion IsLineOfWords lines
written [] h = tt
written (line ∷ lines) h = (All-from_recursion (λ (word : List ℕ). is_word word ≡ true) (line.first ∷ line.others) h.0, written lines h.1)

pub lines_written : (gates : List Placed) (circuit : Circuit) → AllByRecursion HasGateWords gates → OfNames IsName circuit → All IsLineOfWords (lines_with_gates gates circuit)
lines_written gates circuit of_gates h = All-from_recursion IsLineOfWords (lines_with_gates gates circuit) (written (lines_with_gates gates circuit) (all_words gates circuit of_gates h))

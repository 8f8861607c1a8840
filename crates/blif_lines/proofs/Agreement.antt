-- The reader's steps, taken one after the other, come to what Reader says of all lines: a field of
-- the draft, followed by what the lines ahead add to it, is the same before a line and after it.

use Rattle.std.specs.Prelude.{◌≡◌, ℕ, ◌+◌, ◌-◌, ◌==◌, nat_eq, length, drop, Bool, true, false, not, ◌&&◌, ◌||◌, cond, find, Option, Some, None, Result, List, [], ◌∷◌, ◌++◌, map, reverse, take_while, codes, unwrap_or, if◌then◌else◌}
use Rattle.std.specs.Option.{option_or, option_map}
use Rattle.std.proofs.Common.{refl, sym, ◌∙◌, ap, arith, eq-eqb, append_assoc}
use Rattle.std.proofs.lemmas.List.{length-take-le, length-map, map-append, append-nil, reverse-append}
use Rattle.std.proofs.lemmas.List.Sums.{take_while-cons, sum_by-cons}
use Rattle.circuit_model.specs.Soundness.{outputs_of}
use Rattle.circuit_model.specs.declared.circuit.Timing.{Timing}
use Rattle.circuit_model.specs.declared.circuit.Table.{Table}
use Rattle.circuit_model.specs.declared.circuit.Latch.{Latch as TheLatch}
use Rattle.sis_text.specs.Entries.{Entry}
use Rattle.line_words.specs.LineWords.{other_words}
use Rattle.genlib_format.specs.declared.gate.Gate.{Gate as TheGate}
use Rattle.blif_lines.specs.Keyword.{kind_of, is_row, is_row_kind}
use Rattle.blif_lines.specs.Lines.{input_words, is_none, is_end_kind, is_ended, begins_part, has_part, begins_kiss, has_kiss, place_at, part_behind, is_latch, is_node_kind, nodes_in, joined, output_character, heading, rows_behind, is_table_kind, first_mark, growing, table_under, told_before, fault_as, line_fault}
use Rattle.blif_lines.specs.Reader.{Told, told_by, first_line_fault, of_lines, model_lines, part_lines, listed_inputs, listed_outputs, listed_ports, listed_clocks, is_inputs_kind, is_outputs_kind, lists_inputs, lists_outputs, names_beside, listed_or, inputs_in, outputs_in, ports_in, clocks_in, latch_output, gate_tables, driven_by, read_within, read_by, drives_in, reads_within, reads_in, latch_of, latches_by, latches_in, timing_of, is_latch_line, latch_lines, timing_at, first_timing, timing_in, same_timing, mixed_clock, row_of, phase_by, table_of, tables_by, tables_in, named_by, model_name, has_nodes, is_instance_kind, has_instances, unless, first_fault, read_lines, read_told}
use Rattle.blif_lines.specs.Steps.{name_with, begun_by, reading_with, last_with, width_of, growing_of, before_of, with_row, row_behind, tables_with, place_of, with_more, timing_with, mixed_with, with_line, take_as, take_entry, take_entries, no_lines, model_of, part_of, told_of, finished, finish}
use Rattle.blif_lines.specs.declared.content.Content.{Content}
use Rattle.blif_lines.specs.declared.keyword.Keyword.{Keyword}
use Rattle.blif_lines.specs.declared.keyword.Keyword.TheVariants.{Model, Inputs, Outputs, Clock, Names, Latch, Gate, Subckt, StartKiss, DontCare, End, Skipped, Row, Other}
use Rattle.blif_lines.specs.declared.fault.BlifFault.{BlifFault}
use Rattle.blif_lines.specs.declared.draft.Reading.{Reading}
use Rattle.blif_lines.specs.declared.draft.Draft.{Draft}
use Rattle.blif_lines.proofs.Faults.{begins, own_latch, own_subckt, own_place, right_latch, right_gate}
use Rattle.blif_lines.proofs.Gates.{one_gate}
use Rattle.blif_lines.proofs.Growing.{more_own, more_kept}

-- tests
pub same_number : (n : ℕ) → nat_eq n n ≡ true
same_number n = eq-eqb n n refl

-- the table that is being read after some lines
abbrev pub read_with : List (List ℕ) → List (List ℕ) → Reading
read_with words rows =
    record { table = table_of words rows; mark = first_mark (length words - 1) rows }

abbrev pub read_if : Bool → List (List ℕ) → List (List ℕ) → Option Reading
read_if true words rows = Some (read_with words rows)
read_if false words rows = None

abbrev pub reading_from : Option Entry → List (List ℕ) → Option Reading
reading_from None rows = None
reading_from (Some line) rows = read_if (is_table_kind (kind_of line)) (other_words line.words) rows

abbrev pub reading_of : List Entry → Option Reading
reading_of back = reading_from (heading back) (rows_behind back)

pub inputs_long : (words : List (List ℕ)) → length (input_words words) ≡ length words - 1
inputs_long words = length-take-le (length words - 1) words (omega arith)

pub width_is : (words rows : List (List ℕ)) → width_of (read_with words rows) ≡ length words - 1
unfolding table_of
width_is words rows = inputs_long words

-- the output character that a further row must have
pub mark_is : (width : ℕ) (rows : List (List ℕ)) (bytes : List ℕ) → Some (unwrap_or (first_mark width rows) (output_character width bytes)) ≡ first_mark width (rows ++ bytes ∷ [])
mark_is width [] bytes = refl
mark_is width (row ∷ rows) bytes = refl

pub phase_is : (width : ℕ) (rows : List (List ℕ)) (bytes : List ℕ) → phase_by width (rows ++ bytes ∷ []) ≡ (unwrap_or (first_mark width rows) (output_character width bytes) == 49)
phase_is width [] bytes = refl
phase_is width (row ∷ rows) bytes = refl

pub row_read : (words rows : List (List ℕ)) (bytes : List ℕ) → with_row (read_with words rows) bytes ≡ read_with words (rows ++ bytes ∷ [])
unfolding with_row table_of
row_read words rows bytes =
    rw (width_is words rows, mark_is (length words - 1) rows bytes, map-append (row_of (length words - 1)) rows (bytes ∷ []), phase_is (length words - 1) rows bytes) refl

pub row_behind_is : (head : Option Entry) (rows : List (List ℕ)) (bytes : List ℕ) → row_behind (reading_from head rows) bytes ≡ reading_from head (rows ++ bytes ∷ [])
row_behind_is None rows bytes = refl
row_behind_is (Some line) rows bytes = by (is_table_kind (kind_of line))
  where
    by : (b : Bool) → row_behind (read_if b (other_words line.words) rows) bytes ≡ read_if b (other_words line.words) (rows ++ bytes ∷ [])
    by true = ap Some (row_read (other_words line.words) rows bytes)
    by false = refl

-- what is known of that table
growing_read : (words rows : List (List ℕ)) → growing_of (read_with words rows) ≡ growing (length words - 1) rows
unfolding table_of
growing_read words rows = rw (width_is words rows, length-map rows (row_of (length words - 1))) refl

growing_is : (head : Option Entry) (rows : List (List ℕ)) → option_map growing_of (reading_from head rows) ≡ table_under head rows
growing_is None rows = refl
growing_is (Some line) rows = by (is_table_kind (kind_of line))
  where
    by : (b : Bool) → option_map growing_of (read_if b (other_words line.words) rows) ≡ (if b then Some (growing (length (other_words line.words) - 1) rows) else None)
    by true = ap Some (growing_read (other_words line.words) rows)
    by false = refl

-- what a draft has of the lines before
pub record Tells (back : List Entry) (draft : Draft) : Type 0 where
  pub begun : draft.begun ≡ not (is_none back)
  pub unnamed : draft.begun ≡ false → draft.name ≡ codes "top"
  pub ended : draft.ended ≡ is_ended back
  pub part : draft.has_part ≡ has_part back
  pub kiss : draft.has_kiss ≡ has_kiss back
  pub nodes : draft.nodes ≡ nodes_in back
  pub reading : draft.reading ≡ reading_of back

-- a draft tells of the lines before what they tell
pub before_is : (back : List Entry) (draft : Draft) → Tells back draft → before_of draft ≡ told_before back
unfolding place_at part_behind
before_is back draft t = rw (t.begun, t.ended, t.part, t.kiss, t.nodes, t.reading, growing_is (heading back) (rows_behind back)) refl

-- the kind and the fault of a line, beside those of the draft
abbrev pub fault_at : Option (List TheGate) → Draft → Entry → Option BlifFault
fault_at library draft line = fault_as library (kind_of line) (before_of draft) line.number (other_words line.words) line.words

abbrev pub next_at : Option (List TheGate) → Draft → Entry → Draft
next_at library draft line = with_line library (kind_of line) draft line.number (other_words line.words) line.words

-- the table that is being read after one more line
pub heading_other : (line : Entry) (back : List Entry) → is_row line ≡ false → heading (line ∷ back) ≡ Some line
heading_other line back e = rw e refl

pub rows_other : (line : Entry) (back : List Entry) → is_row line ≡ false → rows_behind (line ∷ back) ≡ []
rows_other line back e = rw (take_while-cons is_row line back, e) refl

pub heading_row : (line : Entry) (back : List Entry) → is_row line ≡ true → heading (line ∷ back) ≡ heading back
heading_row line back e = rw e refl

pub rows_row : (line : Entry) (back : List Entry) → is_row line ≡ true → rows_behind (line ∷ back) ≡ rows_behind back ++ joined line.words ∷ []
rows_row line back e =
    rw (take_while-cons is_row line back, e, reverse-append (line ∷ []) (take_while is_row back), map-append (λ (l : Entry). joined l.words) (reverse (take_while is_row back)) (line ∷ [])) refl

pub reading_other : (line : Entry) (back : List Entry) → is_row line ≡ false → reading_of (line ∷ back) ≡ read_if (is_table_kind (kind_of line)) (other_words line.words) []
reading_other line back e = rw (heading_other line back e, rows_other line back e) refl

pub reading_row : (line : Entry) (back : List Entry) → is_row line ≡ true → reading_of (line ∷ back) ≡ row_behind (reading_of back) (joined line.words)
reading_row line back e =
    rw (heading_row line back e, rows_row line back e) (sym (row_behind_is (heading back) (rows_behind back) (joined line.words)))

begun_is : (table : Bool) (words : List (List ℕ)) → (if table then Some (record { table = table_of words []; mark = None }) else None) ≡ read_if table words []
begun_is true words = refl
begun_is false words = refl

reading_next : (line : Entry) (back : List Entry) (draft : Draft) → draft.reading ≡ reading_of back → reading_with (kind_of line) draft (other_words line.words) line.words ≡ reading_of (line ∷ back)
reading_next line back draft e = by (is_row line) refl
  where
    by : (b : Bool) → is_row line ≡ b → (if b then row_behind draft.reading (joined line.words) else begun_by (kind_of line) (other_words line.words)) ≡ reading_of (line ∷ back)
    by true h = ap (λ reading. row_behind reading (joined line.words)) e ∙ sym (reading_row line back h)
    by false h = begun_is (is_table_kind (kind_of line)) (other_words line.words) ∙ sym (reading_other line back h)

nodes_next : (line : Entry) (back : List Entry) (nodes : ℕ) → nodes ≡ nodes_in back → (if is_node_kind (kind_of line) then nodes + 1 else nodes) ≡ nodes_in (line ∷ back)
unfolding nodes_in
nodes_next line back nodes e = by (is_node_kind (kind_of line)) refl
  where
    by : (b : Bool) → is_node_kind (kind_of line) ≡ b → (if b then nodes + 1 else nodes) ≡ nodes_in (line ∷ back)
    by true h =
        let more : nodes_in (line ∷ back) ≡ 1 + nodes_in back = sum_by-cons (λ (l : Entry). cond (is_node_kind (kind_of l)) 1 0) line back ∙ ap (λ (b : Bool). cond {A = ℕ} b 1 0 + nodes_in back) h in
        omega (arith, more, e)
    by false h =
        let more : nodes_in (line ∷ back) ≡ 0 + nodes_in back = sum_by-cons (λ (l : Entry). cond (is_node_kind (kind_of l)) 1 0) line back ∙ ap (λ (b : Bool). cond {A = ℕ} b 1 0 + nodes_in back) h in
        omega (arith, more, e)

pub tells_kept : (library : Option (List TheGate)) (line : Entry) (back : List Entry) (draft : Draft) → Tells back draft → Tells (line ∷ back) (next_at library draft line)
unfolding is_ended has_part has_kiss
tells_kept library line back draft t = record {
  begun = refl;
  unnamed = λ h. absurd (cc);
  ended = ap (λ b. is_end_kind (kind_of line) || b) t.ended;
  part = ap (λ b. begins_part (kind_of line) || b) t.part;
  kiss = ap (λ b. begins_kiss (kind_of line) || b) t.kiss;
  nodes = nodes_next line back draft.nodes t.nodes;
  reading = reading_next line back draft t.reading;
}

-- what is read in the end of a draft and the lines that follow
pub with_rows : Reading → List (List ℕ) → Table
with_rows reading [] = reading.table
with_rows reading (row ∷ rows) = with_rows (with_row reading row) rows

pub with_rows_read : (words before rows : List (List ℕ)) → with_rows (read_with words before) rows ≡ table_of words (before ++ rows)
unfolding with_rows
with_rows_read words before [] = sym (ap (table_of words) (append-nil before))
with_rows_read words before (row ∷ rows) =
    ap (λ reading. with_rows reading rows) (row_read words before row)
    ∙ with_rows_read words (before ++ row ∷ []) rows
    ∙ ap (table_of words) (append_assoc before (row ∷ []) rows)

abbrev pub rows_in : List Entry → List (List ℕ)
rows_in lines = map (λ (row : Entry). joined row.words) (take_while is_row lines)

abbrev pub tables_after : Option (List TheGate) → Option Reading → List Entry → List Table
tables_after library None lines = tables_in library lines
tables_after library (Some reading) lines = with_rows reading (rows_in lines) ∷ tables_in library lines

abbrev pub name_after : Bool → List ℕ → List Entry → List ℕ
name_after true name lines = name
name_after false name lines = model_name lines

-- the names that tables, latches and gates read before a line of inputs
unfoldable pub inner_in : Option (List TheGate) → List Entry → List (List ℕ)
inner_in library [] = []
inner_in library (line ∷ lines) = read_within library (kind_of line) (other_words line.words) ++ (if is_inputs_kind (kind_of line) then [] else inner_in library lines)

abbrev pub inner_after : Option (List TheGate) → Bool → List (List ℕ) → List Entry → List (List ℕ)
inner_after library true inner lines = inner
inner_after library false inner lines = inner ++ inner_in library lines

-- the timing of the first latch, and the line of the first that is timed otherwise, where these
-- lines of latches follow
abbrev pub timing_after : List TheLatch → Option Timing → List Entry → Option Timing
timing_after [] timing [] = timing
timing_after [] timing (line ∷ lines) = timing_at line
timing_after (latch ∷ latches) timing lines = timing

abbrev pub mixed_after : Option ℕ → Option Timing → List Entry → Option ℕ
mixed_after None timing lines = option_map (λ (line : Entry). line.number) (find (λ line. not (same_timing timing (timing_at line))) lines)
mixed_after (Some number) timing lines = Some number

-- what is told by these parts; the ports are those that are listed, or found
abbrev told_with : Bool → Bool → List ℕ → Bool → List (List ℕ) → Bool → List (List ℕ) → List (List ℕ) → List (List ℕ) → List (List ℕ) → List (List ℕ) → List (List ℕ) → Option Timing → Option ℕ → List TheLatch → List Table → List Table → Told
told_with kiss instances name li inputs lo outputs ports clocks drives reads inner timing mixed latches tables dont_care = record {
  has_kiss = kiss;
  has_nodes = not (is_none drives);
  has_instances = instances;
  name = name;
  lists_inputs = li;
  listed_inputs = inputs;
  lists_outputs = lo;
  listed_outputs = outputs;
  ports = ports;
  inputs = listed_or li inputs (names_beside drives inner);
  outputs = listed_or lo outputs (names_beside reads drives);
  clocks = clocks;
  drives = drives;
  reads = reads;
  timing = timing;
  mixed = mixed;
  latches = latches;
  tables = tables;
  dont_care = dont_care;
}

told_same : {kiss kiss2 instances instances2 : Bool} {name name2 : List ℕ} {li li2 : Bool} {inputs inputs2 : List (List ℕ)} {lo lo2 : Bool} {outputs outputs2 ports ports2 clocks clocks2 drives drives2 reads reads2 inner inner2 : List (List ℕ)} {timing timing2 : Option Timing} {mixed mixed2 : Option ℕ} {latches latches2 : List TheLatch} {tables tables2 part part2 : List Table}
    → kiss ≡ kiss2 → instances ≡ instances2 → name ≡ name2 → li ≡ li2 → inputs ≡ inputs2 → lo ≡ lo2 → outputs ≡ outputs2 → ports ≡ ports2 → clocks ≡ clocks2 → drives ≡ drives2 → reads ≡ reads2 → inner ≡ inner2 → timing ≡ timing2 → mixed ≡ mixed2 → latches ≡ latches2 → tables ≡ tables2 → part ≡ part2
    → told_with kiss instances name li inputs lo outputs ports clocks drives reads inner timing mixed latches tables part ≡ told_with kiss2 instances2 name2 li2 inputs2 lo2 outputs2 ports2 clocks2 drives2 reads2 inner2 timing2 mixed2 latches2 tables2 part2
told_same z r a b c d e f g h i j m n o p q = rw (z, r, a, b, c, d, e, f, g, h, i, j, m, n, o, p, q) refl

-- what is told in the end of a draft, where these lines follow, these of the model itself, with
-- these tables and those of the don't-care part
abbrev pub told_after : Option (List TheGate) → Draft → List Entry → List Entry → List Table → List Table → Told
told_after library draft lines own tables part =
    told_with (draft.has_kiss || has_kiss lines) (draft.has_instances || has_instances own) (name_after draft.begun draft.name lines)
    (draft.lists_inputs || lists_inputs own) (draft.inputs ++ of_lines listed_inputs own)
    (draft.lists_outputs || lists_outputs own) (draft.outputs ++ of_lines listed_outputs own)
    (draft.ports ++ of_lines listed_ports own) (draft.clocks ++ of_lines listed_clocks own)
    (draft.drives ++ of_lines (driven_by library) own) (draft.reads ++ of_lines (read_by library) own)
    (inner_after library draft.lists_inputs draft.inner own)
    (timing_after draft.latches draft.timing (latch_lines own))
    (mixed_after draft.mixed (timing_after draft.latches draft.timing (latch_lines own)) (latch_lines own))
    (draft.latches ++ of_lines latches_by own) tables part

-- the tables in the end of a draft, where these lines follow in its part
abbrev pub last_tables : Option (List TheGate) → Draft → List Entry → List Table
last_tables library draft lines = draft.tables ++ tables_after library draft.reading lines

abbrev pub told_end : Option (List TheGate) → Bool → Draft → List Entry → Told
told_end library true draft lines = told_after library draft lines [] draft.model_tables (last_tables library draft lines)
told_end library false draft lines = told_after library draft lines (model_lines lines) (last_tables library draft (model_lines lines)) (tables_in library (part_lines lines))

abbrev pub finished_by : Option (List TheGate) → Draft → List Entry → Result Content BlifFault
finished_by library draft lines = read_told (told_end library draft.has_part draft lines)

-- what a line without a fault is: a latch is right, and a line of the model alone does not come
-- after the line that begins the part
record Right (kind : Keyword) (draft : Draft) (words : List (List ℕ)) : Type 0 where
  latch : is_latch_line kind ≡ true → is_latch words ≡ true
  instances : draft.has_part ≡ true → is_instance_kind kind ≡ false
  latches : draft.has_part ≡ true → is_latch_line kind ≡ false
  part : draft.has_part ≡ true → begins_part kind ≡ false

plain : (kind : Keyword) (draft : Draft) (words : List (List ℕ)) → is_instance_kind kind ≡ false → is_latch_line kind ≡ false → begins_part kind ≡ false → Right kind draft words
plain kind draft words i l p = record { latch = λ h. absurd (cc); instances = λ h. i; latches = λ h. l; part = λ h. p }

right_line : (library : Option (List TheGate)) (kind : Keyword) (draft : Draft) (number : ℕ) (words whole : List (List ℕ)) → fault_as library kind (before_of draft) number words whole ≡ None → Right kind draft words
right_line library Model draft number words whole f = plain Model draft words refl refl refl
right_line library Inputs draft number words whole f = plain Inputs draft words refl refl refl
right_line library Outputs draft number words whole f = plain Outputs draft words refl refl refl
right_line library Clock draft number words whole f = plain Clock draft words refl refl refl
right_line library Names draft number words whole f = plain Names draft words refl refl refl
right_line library Latch draft number words whole f = record {
  latch = λ h. right_latch (place_of draft) draft.nodes number words f;
  instances = λ h. refl;
  latches = λ h. absurd (own_latch draft.ended draft.has_part draft.nodes number words h f);
  part = λ h. refl;
}
right_line library Gate draft number words whole f = plain Gate draft words refl refl refl
right_line library Subckt draft number words whole f = record {
  latch = λ h. absurd (cc);
  instances = λ h. absurd (own_subckt draft.ended draft.has_part number words h f);
  latches = λ h. refl;
  part = λ h. refl;
}
right_line library StartKiss draft number words whole f = plain StartKiss draft words refl refl refl
right_line library DontCare draft number words whole f = record {
  latch = λ h. absurd (cc);
  instances = λ h. refl;
  latches = λ h. refl;
  part = λ h. absurd (own_place draft.ended draft.has_part number h f);
}
right_line library End draft number words whole f = plain End draft words refl refl refl
right_line library Skipped draft number words whole f = plain Skipped draft words refl refl refl
right_line library Row draft number words whole f = plain Row draft words refl refl refl
right_line library Other draft number words whole f = plain Other draft words refl refl refl

-- a field of the draft with what a line adds to it, and the lines that follow
pub put_more : {A : Type 0} (words_of : Keyword → List (List ℕ) → List A) (had : Bool) (before : List A) (line : Entry) (lines : List Entry) → had ≡ false → with_more had before (words_of (kind_of line) (other_words line.words)) ++ of_lines words_of lines ≡ before ++ of_lines words_of (line ∷ lines)
put_more words_of had before line lines h =
    let more = words_of (kind_of line) (other_words line.words) in
    ap (λ items. items ++ of_lines words_of lines) (more_own had before more h) ∙ append_assoc before more (of_lines words_of lines)

swap : (a b c : Bool) → ((a || b) || c) ≡ (b || (a || c))
swap true true c = refl
swap true false c = refl
swap false b c = refl

either : (a b : Bool) → b ≡ true → (a || b) ≡ true
either true b e = refl
either false b e = e

listed : (a had b c : Bool) → had ≡ false → ((a && not had || b) || c) ≡ (b || (a || c))
listed a true b c h = absurd (cc)
listed true false true c h = refl
listed true false false c h = refl
listed false false b c h = refl

still_listed : (a had b : Bool) → had ≡ true → (a && not had || b) ≡ b
still_listed true true b h = refl
still_listed false true b h = refl
still_listed a false b h = absurd (cc)

inner_next : (library : Option (List TheGate)) (had lists : Bool) (inner : List (List ℕ)) (line : Entry) (lines : List Entry) → had ≡ false
    → inner_after library (is_inputs_kind (kind_of line) && not had || lists) (with_more (had || lists) inner (read_within library (kind_of line) (other_words line.words))) lines ≡ inner_after library lists inner (line ∷ lines)
unfolding inner_in
inner_next library true lists inner line lines h = absurd (cc)
inner_next library false true inner line lines h = by (is_inputs_kind (kind_of line))
  where
    more : List (List ℕ)
    more = with_more true inner (read_within library (kind_of line) (other_words line.words))

    by : (inputs : Bool) → inner_after library (inputs && true || true) more lines ≡ inner
    by true = more_kept true inner (read_within library (kind_of line) (other_words line.words)) refl
    by false = more_kept true inner (read_within library (kind_of line) (other_words line.words)) refl
inner_next library false false inner line lines h = by (is_inputs_kind (kind_of line))
  where
    more : List (List ℕ)
    more = read_within library (kind_of line) (other_words line.words)

    by : (inputs : Bool) → inner_after library (inputs && true || false) (with_more false inner more) lines ≡ inner ++ (more ++ (if inputs then [] else inner_in library lines))
    by true = more_own false inner more refl ∙ ap (λ rest. inner ++ rest) (sym (append-nil more))
    by false = ap (λ names. names ++ inner_in library lines) (more_own false inner more refl) ∙ append_assoc inner more (inner_in library lines)

timing_latch : (latches : List TheLatch) (timing : Option Timing) (words : List (List ℕ)) (line : Entry) (lines : List Entry) → other_words line.words ≡ words → is_latch words ≡ true → timing_after (latches ++ latch_of words) (timing_with latches timing (timing_of words)) lines ≡ timing_after latches timing (line ∷ lines)
unfolding timing_with
timing_latch (latch ∷ latches) timing words line lines e is = refl
timing_latch [] timing [] line lines e is = absurd (cc)
timing_latch [] timing (input ∷ []) line lines e is = absurd (cc)
timing_latch [] timing (input ∷ output ∷ words) line lines e is = sym (ap timing_of e)

shared_timing : (latches : List TheLatch) (timing : Option Timing) (line : Entry) (lines : List Entry) → timing_with latches timing (timing_at line) ≡ timing_after latches timing (line ∷ lines)
unfolding timing_with
shared_timing [] timing line lines = refl
shared_timing (latch ∷ latches) timing line lines = refl

mixed_latch : (mixed : Option ℕ) (timing : Option Timing) (line : Entry) (lines : List Entry) → mixed_after (mixed_with mixed timing line.number (timing_at line)) timing lines ≡ mixed_after mixed timing (line ∷ lines)
unfolding mixed_with
mixed_latch (Some number) timing line lines = refl
mixed_latch None timing line lines = by (same_timing timing (timing_at line))
  where
    by : (b : Bool) → mixed_after (if b then None else Some line.number) timing lines ≡ option_map (λ (one : Entry). one.number) (cond (not b) (Some line) (find (λ one. not (same_timing timing (timing_at one))) lines))
    by true = refl
    by false = refl

timing_next : (line : Entry) (lines : List Entry) (latches : List TheLatch) (timing : Option Timing) → (is_latch_line (kind_of line) ≡ true → is_latch (other_words line.words) ≡ true)
    → timing_after (if is_latch_line (kind_of line) then latches ++ latch_of (other_words line.words) else latches) (if is_latch_line (kind_of line) then timing_with latches timing (timing_at line) else timing) (latch_lines lines) ≡ timing_after latches timing (latch_lines (line ∷ lines))
timing_next line lines latches timing right = by (is_latch_line (kind_of line)) right
  where
    by : (b : Bool) → (b ≡ true → is_latch (other_words line.words) ≡ true)
        → timing_after (if b then latches ++ latch_of (other_words line.words) else latches) (if b then timing_with latches timing (timing_at line) else timing) (latch_lines lines) ≡ timing_after latches timing (if b then line ∷ latch_lines lines else latch_lines lines)
    by true is = timing_latch latches timing (other_words line.words) line (latch_lines lines) refl (is refl)
    by false is = refl

mixed_next : (line : Entry) (lines : List Entry) (latches : List TheLatch) (timing : Option Timing) (mixed : Option ℕ) (after : Option Timing) → after ≡ timing_after latches timing (latch_lines (line ∷ lines))
    → mixed_after (if is_latch_line (kind_of line) then mixed_with mixed (timing_with latches timing (timing_at line)) line.number (timing_at line) else mixed) after (latch_lines lines) ≡ mixed_after mixed (timing_after latches timing (latch_lines (line ∷ lines))) (latch_lines (line ∷ lines))
mixed_next line lines latches timing mixed after is = by (is_latch_line (kind_of line)) is
  where
    by : (b : Bool) → after ≡ timing_after latches timing (if b then line ∷ latch_lines lines else latch_lines lines)
        → mixed_after (if b then mixed_with mixed (timing_with latches timing (timing_at line)) line.number (timing_at line) else mixed) after (latch_lines lines)
        ≡ mixed_after mixed (timing_after latches timing (if b then line ∷ latch_lines lines else latch_lines lines)) (if b then line ∷ latch_lines lines else latch_lines lines)
    by true e =
        ap (λ (t : Option Timing). mixed_after (mixed_with mixed (timing_with latches timing (timing_at line)) line.number (timing_at line)) t (latch_lines lines)) e
        ∙ ap (λ (t : Option Timing). mixed_after (mixed_with mixed t line.number (timing_at line)) (timing_after latches timing (line ∷ latch_lines lines)) (latch_lines lines)) (shared_timing latches timing line (latch_lines lines))
        ∙ mixed_latch mixed (timing_after latches timing (line ∷ latch_lines lines)) line (latch_lines lines)
    by false e = ap (λ (t : Option Timing). mixed_after mixed t (latch_lines lines)) e

latches_are : (kind : Keyword) (words : List (List ℕ)) → latches_by kind words ≡ (if is_latch_line kind then latch_of words else [])
latches_are Model words = refl
latches_are Inputs words = refl
latches_are Outputs words = refl
latches_are Clock words = refl
latches_are Names words = refl
latches_are Latch words = refl
latches_are Gate words = refl
latches_are Subckt words = refl
latches_are StartKiss words = refl
latches_are DontCare words = refl
latches_are End words = refl
latches_are Skipped words = refl
latches_are Row words = refl
latches_are Other words = refl

latches_next : (line : Entry) (lines : List Entry) (latches : List TheLatch) → (if is_latch_line (kind_of line) then latches ++ latch_of (other_words line.words) else latches) ++ of_lines latches_by lines ≡ latches ++ of_lines latches_by (line ∷ lines)
latches_next line lines latches =
    by (is_latch_line (kind_of line)) ∙ ap (λ own. latches ++ (own ++ of_lines latches_by lines)) (sym (latches_are (kind_of line) (other_words line.words)))
  where
    by : (b : Bool) → (if b then latches ++ latch_of (other_words line.words) else latches) ++ of_lines latches_by lines ≡ latches ++ ((if b then latch_of (other_words line.words) else []) ++ of_lines latches_by lines)
    by true = append_assoc latches (latch_of (other_words line.words)) (of_lines latches_by lines)
    by false = refl

pub name_other : (line : Entry) (lines : List Entry) → named_by (kind_of line) (other_words line.words) ≡ codes "top" → (begun : Bool) (name : List ℕ) → (begun ≡ false → name ≡ codes "top") → name ≡ name_after begun name (line ∷ lines)
unfolding model_name
name_other line lines e true name h = refl
name_other line lines e false name h = h refl ∙ sym e

pub model_named : (line : Entry) (lines : List Entry) (begun : Bool) (name : List ℕ) → kind_of line ≡ Model → begun ≡ false → named_by Model (other_words line.words) ≡ name_after begun name (line ∷ lines)
unfolding model_name
model_named line lines begun name e none = rw none (sym (ap (λ k. named_by k (other_words line.words)) e))

name_next : (library : Option (List TheGate)) (kind : Keyword) (line : Entry) (lines : List Entry) (back : List Entry) (draft : Draft) → kind_of line ≡ kind → Tells back draft → fault_as library kind (before_of draft) line.number (other_words line.words) line.words ≡ None
    → name_with kind draft.name (other_words line.words) ≡ name_after draft.begun draft.name (line ∷ lines)
name_next library Model line lines back draft e t f = model_named line lines draft.begun draft.name e (begins draft.begun line.number (other_words line.words) f)
name_next library Inputs line lines back draft e t f = name_other line lines (ap (λ k. named_by k (other_words line.words)) e) draft.begun draft.name t.unnamed
name_next library Outputs line lines back draft e t f = name_other line lines (ap (λ k. named_by k (other_words line.words)) e) draft.begun draft.name t.unnamed
name_next library Clock line lines back draft e t f = name_other line lines (ap (λ k. named_by k (other_words line.words)) e) draft.begun draft.name t.unnamed
name_next library Names line lines back draft e t f = name_other line lines (ap (λ k. named_by k (other_words line.words)) e) draft.begun draft.name t.unnamed
name_next library Latch line lines back draft e t f = name_other line lines (ap (λ k. named_by k (other_words line.words)) e) draft.begun draft.name t.unnamed
name_next library Gate line lines back draft e t f = name_other line lines (ap (λ k. named_by k (other_words line.words)) e) draft.begun draft.name t.unnamed
name_next library Subckt line lines back draft e t f = name_other line lines (ap (λ k. named_by k (other_words line.words)) e) draft.begun draft.name t.unnamed
name_next library StartKiss line lines back draft e t f = name_other line lines (ap (λ k. named_by k (other_words line.words)) e) draft.begun draft.name t.unnamed
name_next library DontCare line lines back draft e t f = name_other line lines (ap (λ k. named_by k (other_words line.words)) e) draft.begun draft.name t.unnamed
name_next library End line lines back draft e t f = name_other line lines (ap (λ k. named_by k (other_words line.words)) e) draft.begun draft.name t.unnamed
name_next library Skipped line lines back draft e t f = name_other line lines (ap (λ k. named_by k (other_words line.words)) e) draft.begun draft.name t.unnamed
name_next library Row line lines back draft e t f = name_other line lines (ap (λ k. named_by k (other_words line.words)) e) draft.begun draft.name t.unnamed
name_next library Other line lines back draft e t f = name_other line lines (ap (λ k. named_by k (other_words line.words)) e) draft.begun draft.name t.unnamed

pub tables_more : (library : Option (List TheGate)) (kind : Keyword) (line : Entry) (lines : List Entry) → kind_of line ≡ kind → tables_in library (line ∷ lines) ≡ tables_by library kind (other_words line.words) (rows_in lines) ++ tables_in library lines
unfolding tables_in
tables_more library kind line lines e = ap (λ k. tables_by library k (other_words line.words) (rows_in lines) ++ tables_in library lines) e

pub tables_other : (library : Option (List TheGate)) (kind : Keyword) (line : Entry) (lines : List Entry) → kind_of line ≡ kind → tables_by library kind (other_words line.words) (rows_in lines) ≡ [] → tables_in library (line ∷ lines) ≡ tables_in library lines
tables_other library kind line lines e none = tables_more library kind line lines e ∙ ap (λ tables. tables ++ tables_in library lines) none

pub no_rows_in : (line : Entry) (lines : List Entry) → is_row line ≡ false → rows_in (line ∷ lines) ≡ []
no_rows_in line lines e = rw (take_while-cons is_row line lines, e) refl

pub one_row_in : (line : Entry) (lines : List Entry) → is_row line ≡ true → rows_in (line ∷ lines) ≡ joined line.words ∷ rows_in lines
one_row_in line lines e = rw (take_while-cons is_row line lines, e) refl

pub closed_tables : (library : Option (List TheGate)) (tables : List Table) (reading : Option Reading) (line : Entry) (lines : List Entry) → is_row line ≡ false → tables_with tables reading ++ tables_in library (line ∷ lines) ≡ tables ++ tables_after library reading (line ∷ lines)
unfolding tables_with with_rows
closed_tables library tables None line lines e = refl
closed_tables library tables (Some reading) line lines e =
    append_assoc tables (reading.table ∷ []) (tables_in library (line ∷ lines))
    ∙ ap (λ rows. tables ++ with_rows reading rows ∷ tables_in library (line ∷ lines)) (sym (no_rows_in line lines e))

pub closed_other : (library : Option (List TheGate)) (tables : List Table) (reading : Option Reading) (kind : Keyword) (line : Entry) (lines : List Entry) → kind_of line ≡ kind → is_row_kind kind ≡ false → tables_by library kind (other_words line.words) (rows_in lines) ≡ []
    → tables_with tables reading ++ tables_in library lines ≡ tables ++ tables_after library reading (line ∷ lines)
closed_other library tables reading kind line lines e other none =
    ap (λ rest. tables_with tables reading ++ rest) (sym (tables_other library kind line lines e none)) ∙ closed_tables library tables reading line lines (ap is_row_kind e ∙ other)

pub closed_table : (library : Option (List TheGate)) (tables : List Table) (reading : Option Reading) (line : Entry) (lines : List Entry) → kind_of line ≡ Names → tables_with tables reading ++ with_rows (read_with (other_words line.words) []) (rows_in lines) ∷ tables_in library lines ≡ tables ++ tables_after library reading (line ∷ lines)
closed_table library tables reading line lines e =
    ap (λ table. tables_with tables reading ++ table ∷ tables_in library lines) (with_rows_read (other_words line.words) [] (rows_in lines))
    ∙ ap (λ rest. tables_with tables reading ++ rest) (sym (tables_more library Names line lines e))
    ∙ closed_tables library tables reading line lines (ap is_row_kind e)

pub closed_gate : (library : Option (List TheGate)) (tables : List Table) (reading : Option Reading) (line : Entry) (lines : List Entry) → kind_of line ≡ Gate → (tables_with tables reading ++ gate_tables library (other_words line.words)) ++ tables_in library lines ≡ tables ++ tables_after library reading (line ∷ lines)
closed_gate library tables reading line lines e =
    append_assoc (tables_with tables reading) (gate_tables library (other_words line.words)) (tables_in library lines)
    ∙ ap (λ rest. tables_with tables reading ++ rest) (sym (tables_more library Gate line lines e))
    ∙ closed_tables library tables reading line lines (ap is_row_kind e)

pub row_tables : (library : Option (List TheGate)) (reading : Option Reading) (line : Entry) (lines : List Entry) → kind_of line ≡ Row → tables_after library (row_behind reading (joined line.words)) lines ≡ tables_after library reading (line ∷ lines)
unfolding with_rows
row_tables library None line lines e = sym (tables_other library Row line lines e refl)
row_tables library (Some reading) line lines e =
    rw (one_row_in line lines (ap is_row_kind e), tables_other library Row line lines e refl) refl

tables_next : (library : Option (List TheGate)) (kind : Keyword) (line : Entry) (lines : List Entry) (draft : Draft) → kind_of line ≡ kind → begins_part kind ≡ false
    → last_with library kind draft (other_words line.words) ++ tables_after library (reading_with kind draft (other_words line.words) line.words) lines ≡ draft.tables ++ tables_after library draft.reading (line ∷ lines)
tables_next library Model line lines draft e unlike = closed_other library draft.tables draft.reading Model line lines e refl refl
tables_next library Inputs line lines draft e unlike = closed_other library draft.tables draft.reading Inputs line lines e refl refl
tables_next library Outputs line lines draft e unlike = closed_other library draft.tables draft.reading Outputs line lines e refl refl
tables_next library Clock line lines draft e unlike = closed_other library draft.tables draft.reading Clock line lines e refl refl
tables_next library Names line lines draft e unlike = closed_table library draft.tables draft.reading line lines e
tables_next library Latch line lines draft e unlike = closed_other library draft.tables draft.reading Latch line lines e refl refl
tables_next library Gate line lines draft e unlike = closed_gate library draft.tables draft.reading line lines e
tables_next library Subckt line lines draft e unlike = closed_other library draft.tables draft.reading Subckt line lines e refl refl
tables_next library StartKiss line lines draft e unlike = closed_other library draft.tables draft.reading StartKiss line lines e refl refl
tables_next library DontCare line lines draft e unlike = absurd (cc)
tables_next library End line lines draft e unlike = closed_other library draft.tables draft.reading End line lines e refl refl
tables_next library Skipped line lines draft e unlike = closed_other library draft.tables draft.reading Skipped line lines e refl refl
tables_next library Row line lines draft e unlike = ap (λ rest. draft.tables ++ rest) (row_tables library draft.reading line lines e)
tables_next library Other line lines draft e unlike = closed_other library draft.tables draft.reading Other line lines e refl refl

-- one line more in the model
own_step : (library : Option (List TheGate)) (line : Entry) (lines own : List Entry) (part : List Table) (back : List Entry) (draft : Draft) → Tells back draft → fault_at library draft line ≡ None → draft.has_part ≡ false → begins_part (kind_of line) ≡ false
    → told_after library (next_at library draft line) lines own (last_tables library (next_at library draft line) own) part ≡ told_after library draft (line ∷ lines) (line ∷ own) (last_tables library draft (line ∷ own)) part
unfolding has_kiss has_instances lists_inputs lists_outputs
own_step library line lines own part back draft t f h unlike =
    let right = right_line library (kind_of line) draft line.number (other_words line.words) line.words f in
    let timing = timing_next line own draft.latches draft.timing right.latch in
    told_same
    (swap (begins_kiss (kind_of line)) draft.has_kiss (has_kiss lines))
    (swap (is_instance_kind (kind_of line)) draft.has_instances (has_instances own))
    (name_next library (kind_of line) line lines back draft refl t f)
    (listed (is_inputs_kind (kind_of line)) draft.has_part draft.lists_inputs (lists_inputs own) h)
    (put_more listed_inputs draft.has_part draft.inputs line own h)
    (listed (is_outputs_kind (kind_of line)) draft.has_part draft.lists_outputs (lists_outputs own) h)
    (put_more listed_outputs draft.has_part draft.outputs line own h)
    (put_more listed_ports draft.has_part draft.ports line own h)
    (put_more listed_clocks draft.has_part draft.clocks line own h)
    (put_more (driven_by library) draft.has_part draft.drives line own h)
    (put_more (read_by library) draft.has_part draft.reads line own h)
    (inner_next library draft.has_part draft.lists_inputs draft.inner line own h)
    timing
    (mixed_next line own draft.latches draft.timing draft.mixed _ timing)
    (latches_next line own draft.latches)
    (tables_next library (kind_of line) line own draft refl unlike)
    refl

-- one line more in the don't-care part
still_put : {A : Type 0} (had : Bool) (items more : List A) → had ≡ true → with_more had items more ++ [] ≡ items ++ []
still_put had items more h = ap (λ all. all ++ []) (more_kept had items more h)

part_step : (library : Option (List TheGate)) (line : Entry) (lines back : List Entry) (draft : Draft) → Tells back draft → fault_at library draft line ≡ None → draft.has_part ≡ true
    → told_end library true (next_at library draft line) lines ≡ told_end library true draft (line ∷ lines)
unfolding has_kiss
part_step library line lines back draft t f h =
    let right = right_line library (kind_of line) draft line.number (other_words line.words) line.words f in
    let words = other_words line.words in
    let inputs = still_listed (is_inputs_kind (kind_of line)) draft.has_part draft.lists_inputs h in
    let inner = more_kept (draft.has_part || draft.lists_inputs) draft.inner (read_within library (kind_of line) words) (ap (λ b. b || draft.lists_inputs) h) in
    let latches : Bool → List TheLatch = λ b. if b then draft.latches ++ latch_of words else draft.latches in
    let timing : Bool → Option Timing = λ b. if b then timing_with draft.latches draft.timing (timing_of words) else draft.timing in
    let mixed : Bool → Option ℕ = λ b. if b then mixed_with draft.mixed (timing_with draft.latches draft.timing (timing_of words)) line.number (timing_of words) else draft.mixed in
    told_same
    (swap (begins_kiss (kind_of line)) draft.has_kiss (has_kiss lines))
    (ap (λ b. (b || draft.has_instances) || has_instances []) (right.instances h))
    (name_next library (kind_of line) line lines back draft refl t f)
    (ap (λ b. b || lists_inputs []) inputs)
    (still_put draft.has_part draft.inputs (listed_inputs (kind_of line) words) h)
    (ap (λ b. b || lists_outputs []) (still_listed (is_outputs_kind (kind_of line)) draft.has_part draft.lists_outputs h))
    (still_put draft.has_part draft.outputs (listed_outputs (kind_of line) words) h)
    (still_put draft.has_part draft.ports (listed_ports (kind_of line) words) h)
    (still_put draft.has_part draft.clocks (listed_clocks (kind_of line) words) h)
    (still_put draft.has_part draft.drives (driven_by library (kind_of line) words) h)
    (still_put draft.has_part draft.reads (read_by library (kind_of line) words) h)
    (ap (λ b. inner_after library b (next_at library draft line).inner []) inputs ∙ ap (λ names. inner_after library draft.lists_inputs names []) inner)
    (ap (λ b. timing_after (latches b) (timing b) []) (right.latches h))
    (ap (λ b. mixed_after (mixed b) (timing_after (latches b) (timing b) []) []) (right.latches h))
    (ap (λ b. latches b ++ []) (right.latches h))
    (ap (λ (b : Bool). if b then tables_with draft.tables draft.reading else draft.model_tables) (right.part h))
    (tables_next library (kind_of line) line lines draft refl (right.part h))

-- the lines of the model and of the part, with one more
pub own_more : (line : Entry) (lines : List Entry) → begins_part (kind_of line) ≡ false → model_lines (line ∷ lines) ≡ line ∷ model_lines lines
unfolding model_lines
own_more line lines unlike = rw (take_while-cons (λ line. not (begins_part (kind_of line))) line lines, unlike) refl

pub own_ends : (line : Entry) (lines : List Entry) → begins_part (kind_of line) ≡ true → model_lines (line ∷ lines) ≡ []
unfolding model_lines
own_ends line lines is = rw (take_while-cons (λ line. not (begins_part (kind_of line))) line lines, is) refl

pub part_later : (line : Entry) (lines : List Entry) → begins_part (kind_of line) ≡ false → part_lines (line ∷ lines) ≡ part_lines lines
unfolding part_lines
part_later line lines unlike = ap (λ (own : List Entry). drop (length own) (line ∷ lines)) (own_more line lines unlike)

pub part_here : (line : Entry) (lines : List Entry) → begins_part (kind_of line) ≡ true → part_lines (line ∷ lines) ≡ line ∷ lines
unfolding part_lines
part_here line lines is = ap (λ (own : List Entry). drop (length own) (line ∷ lines)) (own_ends line lines is)

pub or_nothing : (b : Bool) → b ≡ (b || false)
or_nothing true = refl
or_nothing false = refl

pub inner_ends : (library : Option (List TheGate)) (lists : Bool) (inner : List (List ℕ)) → inner ≡ inner_after library lists inner []
unfolding inner_in
inner_ends library true inner = refl
inner_ends library false inner = sym (append-nil inner)

pub timing_ends : (latches : List TheLatch) (timing : Option Timing) → timing ≡ timing_after latches timing []
timing_ends [] timing = refl
timing_ends (latch ∷ latches) timing = refl

pub mixed_ends : (mixed : Option ℕ) (timing : Option Timing) → mixed ≡ mixed_after mixed timing []
mixed_ends None timing = refl
mixed_ends (Some number) timing = refl

-- after the last line
pub named_end : (begun : Bool) (name : List ℕ) → (begun ≡ false → name ≡ codes "top") → name ≡ name_after begun name []
unfolding model_name
named_end true name h = refl
named_end false name h = h refl

pub tables_end : (library : Option (List TheGate)) (tables : List Table) (reading : Option Reading) → tables_with tables reading ≡ tables ++ tables_after library reading []
unfolding tables_with tables_in with_rows
tables_end library tables None = sym (append-nil tables)
tables_end library tables (Some reading) = refl

-- the model ends
own_end : (library : Option (List TheGate)) (line : Entry) (lines back : List Entry) (draft : Draft) → kind_of line ≡ DontCare → Tells back draft
    → told_end library true (with_line library DontCare draft line.number (other_words line.words) line.words) lines ≡ told_after library draft (line ∷ lines) [] (last_tables library draft []) (tables_in library (line ∷ lines))
unfolding has_kiss
own_end library line lines back draft e t =
    told_same
    (ap (λ k. draft.has_kiss || (begins_kiss k || has_kiss lines)) (sym e))
    refl
    (name_other line lines (ap (λ k. named_by k (other_words line.words)) e) draft.begun draft.name t.unnamed)
    refl refl refl refl refl refl refl refl refl refl refl refl
    (tables_end library draft.tables draft.reading)
    (sym (tables_other library DontCare line lines e refl))

part_begun : (library : Option (List TheGate)) (line : Entry) (lines back : List Entry) (draft : Draft) → kind_of line ≡ DontCare → Tells back draft
    → told_end library true (with_line library DontCare draft line.number (other_words line.words) line.words) lines ≡ told_end library false draft (line ∷ lines)
part_begun library line lines back draft e t =
    own_end library line lines back draft e t
    ∙ sym (ap (λ own. told_after library draft (line ∷ lines) own (last_tables library draft own) (tables_in library (part_lines (line ∷ lines)))) (own_ends line lines (ap begins_part e))
    ∙ ap (λ rest. told_after library draft (line ∷ lines) [] (last_tables library draft []) (tables_in library rest)) (part_here line lines (ap begins_part e)))

own_kept : (library : Option (List TheGate)) (line : Entry) (lines back : List Entry) (draft : Draft) → Tells back draft → fault_at library draft line ≡ None → draft.has_part ≡ false → begins_part (kind_of line) ≡ false
    → told_end library false (next_at library draft line) lines ≡ told_end library false draft (line ∷ lines)
own_kept library line lines back draft t f h unlike =
    own_step library line lines (model_lines lines) (tables_in library (part_lines lines)) back draft t f h unlike
    ∙ sym (ap (λ own. told_after library draft (line ∷ lines) own (last_tables library draft own) (tables_in library (part_lines (line ∷ lines)))) (own_more line lines unlike)
    ∙ ap (λ rest. told_after library draft (line ∷ lines) (line ∷ model_lines lines) (last_tables library draft (line ∷ model_lines lines)) (tables_in library rest)) (part_later line lines unlike))

-- what is told in the end is the same, seen from before a line and from after it
pub told_on : (library : Option (List TheGate)) (line : Entry) (lines back : List Entry) (draft : Draft) → Tells back draft → fault_at library draft line ≡ None
    → told_end library (next_at library draft line).has_part (next_at library draft line) lines ≡ told_end library draft.has_part draft (line ∷ lines)
told_on library line lines back draft t f = by draft.has_part (begins_part (kind_of line)) refl refl
  where
    next : Draft
    next = next_at library draft line

    by : (had begin : Bool) → draft.has_part ≡ had → begins_part (kind_of line) ≡ begin → told_end library next.has_part next lines ≡ told_end library draft.has_part draft (line ∷ lines)
    by true begin h unlike =
        ap (λ b. told_end library b next lines) (either (begins_part (kind_of line)) draft.has_part h)
        ∙ part_step library line lines back draft t f h
        ∙ sym (ap (λ b. told_end library b draft (line ∷ lines)) h)
    by false true h is =
        ap (λ b. told_end library b next lines) (ap (λ b. b || draft.has_part) is)
        ∙ begun (kind_of line) refl is
        ∙ sym (ap (λ b. told_end library b draft (line ∷ lines)) h)
      where
        begun : (k : Keyword) → kind_of line ≡ k → begins_part k ≡ true → told_end library true (with_line library k draft line.number (other_words line.words) line.words) lines ≡ told_end library false draft (line ∷ lines)
        begun DontCare e is = part_begun library line lines back draft e t
        begun Model e is = absurd (cc)
        begun Inputs e is = absurd (cc)
        begun Outputs e is = absurd (cc)
        begun Clock e is = absurd (cc)
        begun Names e is = absurd (cc)
        begun Latch e is = absurd (cc)
        begun Gate e is = absurd (cc)
        begun Subckt e is = absurd (cc)
        begun StartKiss e is = absurd (cc)
        begun End e is = absurd (cc)
        begun Skipped e is = absurd (cc)
        begun Row e is = absurd (cc)
        begun Other e is = absurd (cc)
    by false false h unlike =
        ap (λ b. told_end library b next lines) (ap (λ b. b || draft.has_part) unlike ∙ h)
        ∙ own_kept library line lines back draft t f h unlike
        ∙ sym (ap (λ b. told_end library b draft (line ∷ lines)) h)

-- after the last line
ended : (library : Option (List TheGate)) (back : List Entry) (draft : Draft) → Tells back draft → (tables part : List Table) → (told_of draft).tables ≡ tables → (told_of draft).dont_care ≡ part → told_of draft ≡ told_after library draft [] [] tables part
unfolding has_kiss has_instances lists_inputs lists_outputs
ended library back draft t tables part of_model of_part =
    told_same
    (or_nothing draft.has_kiss)
    (or_nothing draft.has_instances)
    (named_end draft.begun draft.name t.unnamed)
    (or_nothing draft.lists_inputs)
    (sym (append-nil draft.inputs))
    (or_nothing draft.lists_outputs)
    (sym (append-nil draft.outputs))
    (sym (append-nil draft.ports))
    (sym (append-nil draft.clocks))
    (sym (append-nil draft.drives))
    (sym (append-nil draft.reads))
    (inner_ends library draft.lists_inputs draft.inner)
    (timing_ends draft.latches draft.timing)
    (mixed_ends draft.mixed (timing_after draft.latches draft.timing []))
    (sym (append-nil draft.latches))
    of_model
    of_part

pub ends_told : (library : Option (List TheGate)) (back : List Entry) (draft : Draft) → Tells back draft → (had : Bool) → draft.has_part ≡ had → told_of draft ≡ told_end library had draft []
unfolding model_lines part_lines tables_in
ends_told library back draft t had h =
    let last = tables_with draft.tables draft.reading in
    let own : (told_of draft).tables ≡ model_of had draft.model_tables last = ap (λ b. model_of b draft.model_tables last) h in
    let part : (told_of draft).dont_care ≡ part_of had last = ap (λ b. part_of b last) h in
    by had own part
  where
    by : (had : Bool) → (told_of draft).tables ≡ model_of had draft.model_tables (tables_with draft.tables draft.reading) → (told_of draft).dont_care ≡ part_of had (tables_with draft.tables draft.reading) → told_of draft ≡ told_end library had draft []
    by true own part = ended library back draft t draft.model_tables (last_tables library draft []) own (part ∙ tables_end library draft.tables draft.reading)
    by false own part = ended library back draft t (last_tables library draft []) [] (own ∙ tables_end library draft.tables draft.reading) part

pub finish_end : (library : Option (List TheGate)) (back : List Entry) (draft : Draft) → Tells back draft → finished draft ≡ finished_by library draft []
finish_end library back draft t = ap read_told (ends_told library back draft t draft.has_part refl)

pub taken_entry : (library : Option (List TheGate)) (draft : Draft) (line : Entry) (fault : Option BlifFault) → fault_at library draft line ≡ fault → take_entry library draft line ≡ unless fault (next_at library draft line)
unfolding take_entry take_as
taken_entry library draft line fault f = ap (λ one. unless one (next_at library draft line)) f

pub fault_of_line : (library : Option (List TheGate)) (line : Entry) (back : List Entry) (draft : Draft) (fault : Option BlifFault) → fault_at library draft line ≡ fault → Tells back draft → line_fault library back line ≡ fault
unfolding line_fault
fault_of_line library line back draft fault f t =
    sym (ap (λ before. fault_as library (kind_of line) before line.number (other_words line.words) line.words) (before_is back draft t)) ∙ f

-- the steps from a draft on come to what the form says of the lines from there on
pub agree : (library : Option (List TheGate)) (lines back : List Entry) (draft : Draft) → Tells back draft → finish (take_entries library draft lines) ≡ first_fault (first_line_fault library back lines) (finished_by library draft lines)
unfolding take_entries first_line_fault
agree library [] back draft t = finish_end library back draft t
agree library (line ∷ lines) back draft t =
    step (fault_at library draft line) refl
    (λ f. agree library lines (line ∷ back) (next_at library draft line) (tells_kept library line back draft t))
  where
    step : (fault : Option BlifFault) → fault_at library draft line ≡ fault
        → (fault_at library draft line ≡ None
        → finish (take_entries library (next_at library draft line) lines) ≡ first_fault (first_line_fault library (line ∷ back) lines) (finished_by library (next_at library draft line) lines))
        → finish (take_entries library draft (line ∷ lines)) ≡ first_fault (first_line_fault library back (line ∷ lines)) (finished_by library draft (line ∷ lines))
    step None f rec =
        rw (taken_entry library draft line None f, fault_of_line library line back draft None f t)
        (rec f ∙ ap (first_fault (first_line_fault library (line ∷ back) lines)) (ap read_told (told_on library line lines back draft t f)))
    step (Some fault) f rec =
        rw (taken_entry library draft line (Some fault) f, fault_of_line library line back draft (Some fault) f t) refl

pub nothing_told : Tells [] no_lines
unfolding is_ended has_part has_kiss nodes_in
nothing_told = record {
  begun = refl;
  unnamed = λ h. refl;
  ended = refl;
  part = refl;
  kiss = refl;
  nodes = refl;
  reading = refl;
}

-- what is told of all lines is what the form says of them
pub or_left : (a b : Bool) → (a || b) ≡ false → a ≡ false
or_left true b e = e
or_left false b e = refl

pub or_right : (a b : Bool) → (a || b) ≡ false → b ≡ false
or_right true b e = absurd (cc)
or_right false b e = e

inner_all : (library : Option (List TheGate)) (lines : List Entry) → lists_inputs lines ≡ false → inner_in library lines ≡ reads_within library lines
unfolding inner_in lists_inputs reads_within
inner_all library [] e = refl
inner_all library (line ∷ lines) e =
    let none : is_inputs_kind (kind_of line) ≡ false = or_left (is_inputs_kind (kind_of line)) (lists_inputs lines) e in
    let more = read_within library (kind_of line) (other_words line.words) in
    ap (λ (b : Bool). more ++ (if b then [] else inner_in library lines)) none
    ∙ ap (λ rest. more ++ rest) (inner_all library lines (or_right (is_inputs_kind (kind_of line)) (lists_inputs lines) e))

same_reads : (library : Option (List TheGate)) (kind : Keyword) (words : List (List ℕ)) → is_outputs_kind kind ≡ false → read_by library kind words ≡ read_within library kind words
same_reads library Model words unlike = refl
same_reads library Inputs words unlike = refl
same_reads library Outputs words unlike = absurd (cc)
same_reads library Clock words unlike = refl
same_reads library Names words unlike = refl
same_reads library Latch words unlike = refl
same_reads library Gate words unlike = refl
same_reads library Subckt words unlike = refl
same_reads library StartKiss words unlike = refl
same_reads library DontCare words unlike = refl
same_reads library End words unlike = refl
same_reads library Skipped words unlike = refl
same_reads library Row words unlike = refl
same_reads library Other words unlike = refl

reads_all : (library : Option (List TheGate)) (lines : List Entry) → lists_outputs lines ≡ false → reads_in library lines ≡ reads_within library lines
unfolding lists_outputs reads_in reads_within
reads_all library [] e = refl
reads_all library (line ∷ lines) e =
    ap (λ more. more ++ reads_in library lines) (same_reads library (kind_of line) (other_words line.words) (or_left (is_outputs_kind (kind_of line)) (lists_outputs lines) e))
    ∙ ap (λ rest. read_within library (kind_of line) (other_words line.words) ++ rest) (reads_all library lines (or_right (is_outputs_kind (kind_of line)) (lists_outputs lines) e))

pub inputs_all : (library : Option (List TheGate)) (lines : List Entry) → listed_or (lists_inputs lines) (of_lines listed_inputs lines) (names_beside (drives_in library lines) (inner_in library lines)) ≡ inputs_in library lines
unfolding inputs_in
inputs_all library lines = by (lists_inputs lines) refl
  where
    by : (b : Bool) → lists_inputs lines ≡ b → listed_or b (of_lines listed_inputs lines) (names_beside (drives_in library lines) (inner_in library lines)) ≡ listed_or b (of_lines listed_inputs lines) (names_beside (drives_in library lines) (reads_within library lines))
    by true e = refl
    by false e = ap (names_beside (drives_in library lines)) (inner_all library lines e)

pub outputs_all : (library : Option (List TheGate)) (lines : List Entry) → listed_or (lists_outputs lines) (of_lines listed_outputs lines) (names_beside (reads_in library lines) (drives_in library lines)) ≡ outputs_in library lines
unfolding outputs_in
outputs_all library lines = by (lists_outputs lines) refl
  where
    by : (b : Bool) → lists_outputs lines ≡ b → listed_or b (of_lines listed_outputs lines) (names_beside (reads_in library lines) (drives_in library lines)) ≡ listed_or b (of_lines listed_outputs lines) (names_beside (reads_within library lines) (drives_in library lines))
    by true e = refl
    by false e = ap (λ names. names_beside names (drives_in library lines)) (reads_all library lines e)

pub timing_all : (lines : List Entry) → timing_after [] None lines ≡ first_timing lines
timing_all [] = refl
timing_all (line ∷ lines) = refl

-- a line without a fault, and the lines after it
pub none_or : (one other : Option BlifFault) → option_or one other ≡ None → (one ≡ None) × (other ≡ None)
none_or None other e = (refl, e)
none_or (Some fault) other e = absurd (cc)

-- a latch and a gate without a fault drive a signal
pub latch_drives : (words : List (List ℕ)) (rest : List (List ℕ)) → is_latch words ≡ true → is_none (latch_output words ++ rest) ≡ false
latch_drives [] rest is = absurd (cc)
latch_drives (input ∷ []) rest is = absurd (cc)
latch_drives (input ∷ output ∷ words) rest is = refl

-- something is driven exactly if the model has a table, a latch or a gate
pub driven_is : (library : Option (List TheGate)) (lines back : List Entry) → first_line_fault library back lines ≡ None → not (is_none (drives_in library (model_lines lines))) ≡ has_nodes (model_lines lines)
unfolding first_line_fault line_fault drives_in has_nodes model_lines
driven_is library [] back e = refl
driven_is library (line ∷ lines) back e =
    by (kind_of line) refl (none_or (line_fault library back line) (first_line_fault library (line ∷ back) lines) e).0
    (driven_is library lines (line ∷ back) (none_or (line_fault library back line) (first_line_fault library (line ∷ back) lines) e).1)
  where
    goes_on : (k : Keyword) → kind_of line ≡ k → begins_part k ≡ false
        → not (is_none (driven_by library k (other_words line.words) ++ drives_in library (model_lines lines))) ≡ (is_node_kind k || has_nodes (model_lines lines))
        → not (is_none (drives_in library (model_lines (line ∷ lines)))) ≡ has_nodes (model_lines (line ∷ lines))
    goes_on k is unlike h = rw (own_more line lines (ap begins_part is ∙ unlike), is) h

    by : (k : Keyword) → kind_of line ≡ k → fault_as library k (told_before back) line.number (other_words line.words) line.words ≡ None → not (is_none (drives_in library (model_lines lines))) ≡ has_nodes (model_lines lines)
        → not (is_none (drives_in library (model_lines (line ∷ lines)))) ≡ has_nodes (model_lines (line ∷ lines))
    by Model is f rec = goes_on Model is refl rec
    by Inputs is f rec = goes_on Inputs is refl rec
    by Outputs is f rec = goes_on Outputs is refl rec
    by Clock is f rec = goes_on Clock is refl rec
    by Names is f rec = goes_on Names is refl refl
    by Latch is f rec = goes_on Latch is refl (ap not (latch_drives (other_words line.words) (drives_in library (model_lines lines)) (right_latch (part_behind back) (nodes_in back) line.number (other_words line.words) f)))
    by Gate is f rec = goes_on Gate is refl (one_gate library line.number (other_words line.words) (λ tables. not (is_none (outputs_of tables ++ drives_in library (model_lines lines))) ≡ true)
        (right_gate library (part_behind back) (nodes_in back) line.number (other_words line.words) f).cell (λ gates table g r. refl))
    by Subckt is f rec = goes_on Subckt is refl rec
    by StartKiss is f rec = goes_on StartKiss is refl rec
    by DontCare is f rec = rw (own_ends line lines (ap begins_part is)) refl
    by End is f rec = goes_on End is refl rec
    by Skipped is f rec = goes_on Skipped is refl rec
    by Row is f rec = goes_on Row is refl rec
    by Other is f rec = absurd (cc)

-- what is told in the end of all lines, where none has a fault
pub all_told : (library : Option (List TheGate)) (lines : List Entry) → first_line_fault library [] lines ≡ None → told_end library false no_lines lines ≡ told_by library lines
unfolding told_by drives_in reads_in ports_in clocks_in latches_in timing_in mixed_clock
all_told library lines e =
    rw (inputs_all library (model_lines lines), outputs_all library (model_lines lines), timing_all (latch_lines (model_lines lines)), driven_is library lines [] e) refl

-- the steps over all lines come to what the form says of them
pub all_agree : (library : Option (List TheGate)) (lines : List Entry) → finish (take_entries library no_lines lines) ≡ read_lines library lines
unfolding read_lines
all_agree library lines = agree library lines [] no_lines nothing_told ∙ by (first_line_fault library [] lines) refl
  where
    by : (fault : Option BlifFault) → first_line_fault library [] lines ≡ fault → first_fault fault (finished_by library no_lines lines) ≡ first_fault fault (read_told (told_by library lines))
    by None e = ap read_told (all_told library lines e)
    by (Some fault) e = refl

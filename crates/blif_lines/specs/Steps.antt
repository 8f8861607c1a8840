-- What the reader keeps of the lines that it has read, what one more line adds to it, and what it
-- tells. Source: BLIF appendix of the SIS report (UCB/ERL M92/41). Lines defines what is wrong with
-- a line, by what the lines before it tell; Reader what a line means, and what is wrong with the
-- whole and what is read of it, by what all lines tell. Here each list grows by what Reader says of
-- the line, and a draft tells what its lines tell (`before_of`, `told_of`), which proofs of this
-- crate say; so a fault, a circuit and a head are defined once. No clause of a call that a program
-- outside the readers makes cites this module: those of this crate's drafts do, and those of
-- blif_models, which takes lines one by one too.
use Rattle.std.specs.Prelude.{◌≡◌, ℕ, ◌+◌, Bool, true, false, not, ◌&&◌, ◌||◌, ◌==◌, Option, Some, None, Result, Ok, Err, List, [], ◌∷◌, ◌++◌, length, codes, unwrap_or, if◌then◌else◌}
use Rattle.std.specs.Option.{option_map}
use Rattle.circuit_model.specs.Names.{all_different}
use Rattle.circuit_model.specs.Soundness.{outputs_of}
use Rattle.circuit_model.specs.declared.circuit.Timing.{Timing}
use Rattle.circuit_model.specs.declared.circuit.Table.{Table}
use Rattle.circuit_model.specs.declared.circuit.Latch.{Latch as TheLatch}
use Rattle.sis_text.specs.Entries.{Entry}
use Rattle.circuit_checks.specs.NameChecks.{first_again, first_listed_twice}
use Rattle.line_words.specs.LineWords.{other_words}
use Rattle.genlib_format.specs.declared.gate.Gate.{Gate as TheGate}
use Rattle.blif_lines.specs.Keyword.{kind_of, is_row_kind}
use Rattle.blif_lines.specs.Lines.{Growing, Before, place_at, fault_as, is_table_kind, joined, output_character, is_none, is_end_kind, begins_part, begins_kiss, is_node_kind}
use Rattle.blif_lines.specs.Reader.{Told, read_told, row_of, named_by, table_of, latch_of, timing_of, same_timing, names_beside, listed_or, gate_tables, unless, listed_inputs, listed_outputs, listed_ports, listed_clocks, driven_by, read_by, read_within, is_inputs_kind, is_outputs_kind, is_latch_line, is_instance_kind}
use Rattle.blif_lines.specs.declared.keyword.Keyword.{Keyword}
use Rattle.blif_lines.specs.declared.keyword.Keyword.TheVariants.{Model, Gate}
use Rattle.blif_lines.specs.declared.part.Part.{Part}
use Rattle.blif_lines.specs.declared.fault.BlifFault.{BlifFault}
use Rattle.sis_text.specs.declared.read_fault.ReadFault.{ReadFault}
use Rattle.sis_text.specs.declared.read_fault.ReadFault.TheVariants as read_fault
use Rattle.blif_lines.specs.declared.content.Content.{Content}
use Rattle.blif_lines.specs.declared.draft.Reading.{Reading}
use Rattle.blif_lines.specs.declared.draft.Draft.{Draft}

-- the number of inputs of the table that is being read
abbrev pub width_of : Reading → ℕ
width_of reading = length reading.table.inputs

-- the output character of the table that is being read, if these bytes are its next row: that of
-- its first row
abbrev pub mark_with : Reading → List ℕ → ℕ
mark_with reading bytes =
    unwrap_or reading.mark (output_character (width_of reading) bytes)

-- the table that is being read, with one more row
unfoldable pub with_row : Reading → List ℕ → Reading
with_row reading bytes = record {
  table = record {
    inputs = reading.table.inputs;
    output = reading.table.output;
    rows = reading.table.rows ++ row_of (width_of reading) bytes ∷ [];
    phase = mark_with reading bytes == 49;
  };
  mark = Some (mark_with reading bytes);
}

-- the table that is being read with one more row
abbrev pub row_behind : Option Reading → List ℕ → Option Reading
row_behind None bytes = None
row_behind (Some reading) bytes = Some (with_row reading bytes)

-- the tables, followed by the one that was being read
unfoldable pub tables_with : List Table → Option Reading → List Table
tables_with tables None = tables
tables_with tables (Some reading) = tables ++ reading.table ∷ []

-- the draft after a line that is not a row: the table that was being read is among the others
unfoldable pub closed : Draft → Draft
closed draft = record draft { begun = true; tables = tables_with draft.tables draft.reading; reading = None }

-- the part of the next line
abbrev pub place_of : Draft → Part
place_of draft = place_at draft.ended draft.has_part

-- what is known of the table that is being read
abbrev pub growing_of : Reading → Growing
growing_of reading = record {
  width = width_of reading;
  mark = reading.mark;
  count = length reading.table.rows;
}

-- what a draft tells of the lines before the next one
abbrev pub before_of : Draft → Before
before_of draft = record {
  begun = draft.begun;
  place = place_of draft;
  has_kiss = draft.has_kiss;
  nodes = draft.nodes;
  table = option_map growing_of draft.reading;
}

-- a list with what a line adds to it, as long as it grows
abbrev pub with_more : {A : Type 0} → Bool → List A → List A → List A
with_more had items [] = items
with_more true items (first ∷ rest) = items
with_more false items (first ∷ rest) = items ++ first ∷ rest

-- the timing of the first latch, after one more latch with its own
unfoldable pub timing_with : List TheLatch → Option Timing → Option Timing → Option Timing
timing_with [] timing own = own
timing_with (latch ∷ latches) timing own = timing

-- the line of the first latch whose timing is not that of the first, after one more latch with its
-- own timing in a line of this number
unfoldable pub mixed_with : Option ℕ → Option Timing → ℕ → Option Timing → Option ℕ
mixed_with None timing number own = if same_timing timing own then None else Some number
mixed_with (Some line) timing number own = Some line

-- the name of the model after a line
abbrev pub name_with : Keyword → List ℕ → List (List ℕ) → List ℕ
name_with Model name words = named_by Model words
name_with kind name words = name

-- tables with that of a `.gate` line, which comes from the library
abbrev pub cells_with : Option (List TheGate) → Keyword → List Table → List (List ℕ) → List Table
cells_with library Gate tables words = tables ++ gate_tables library words
cells_with library kind tables words = tables

-- the table that is read after a line, unless the line is a row: that of a `.names` line
abbrev pub begun_by : Keyword → List (List ℕ) → Option Reading
begun_by kind words =
    if is_table_kind kind then Some (record { table = table_of words []; mark = None }) else None

-- the table that is being read after a line
abbrev pub reading_with : Keyword → Draft → List (List ℕ) → List (List ℕ) → Option Reading
reading_with kind draft words whole =
    if is_row_kind kind then row_behind draft.reading (joined whole) else begun_by kind words

-- the tables that were read last, after a line: the one that was being read is among them, unless
-- the line is its row; the don't-care part begins without tables
abbrev pub last_with : Option (List TheGate) → Keyword → Draft → List (List ℕ) → List Table
last_with library kind draft words =
    if is_row_kind kind then draft.tables
    else (if begins_part kind then []
    else cells_with library kind (tables_with draft.tables draft.reading) words)

-- the timing of the first latch after a latch with these words
abbrev pub first_with : Draft → List (List ℕ) → Option Timing
first_with draft words = timing_with draft.latches draft.timing (timing_of words)

-- the draft after a line: each list has what the line adds to it
abbrev pub with_line :
    Option (List TheGate) → Keyword → Draft → ℕ → List (List ℕ) → List (List ℕ) → Draft
with_line library kind draft number words whole = record {
  begun = true;
  ended = is_end_kind kind || draft.ended;
  has_part = begins_part kind || draft.has_part;
  has_kiss = begins_kiss kind || draft.has_kiss;
  has_instances = is_instance_kind kind || draft.has_instances;
  name = name_with kind draft.name words;
  lists_inputs = is_inputs_kind kind && not draft.has_part || draft.lists_inputs;
  inputs = with_more draft.has_part draft.inputs (listed_inputs kind words);
  lists_outputs = is_outputs_kind kind && not draft.has_part || draft.lists_outputs;
  outputs = with_more draft.has_part draft.outputs (listed_outputs kind words);
  ports = with_more draft.has_part draft.ports (listed_ports kind words);
  clocks = with_more draft.has_part draft.clocks (listed_clocks kind words);
  drives = with_more draft.has_part draft.drives (driven_by library kind words);
  reads = with_more draft.has_part draft.reads (read_by library kind words);
  inner = with_more (draft.has_part || draft.lists_inputs) draft.inner
      (read_within library kind words);
  timing = if is_latch_line kind then first_with draft words else draft.timing;
  mixed = if is_latch_line kind
      then mixed_with draft.mixed (first_with draft words) number (timing_of words)
      else draft.mixed;
  latches = if is_latch_line kind then draft.latches ++ latch_of words else draft.latches;
  model_tables = if begins_part kind
      then tables_with draft.tables draft.reading
      else draft.model_tables;
  tables = last_with library kind draft words;
  reading = reading_with kind draft words whole;
  nodes = if is_node_kind kind then draft.nodes + 1 else draft.nodes;
}

-- a line of a kind added to what is kept, or its fault
unfoldable pub take_as : Option (List TheGate) → Keyword → Draft → ℕ → List (List ℕ) → List (List ℕ) → Result Draft BlifFault
take_as library kind draft number words whole =
    unless (fault_as library kind (before_of draft) number words whole)
    (with_line library kind draft number words whole)

-- the draft with one more line
unfoldable pub take_entry : Option (List TheGate) → Draft → Entry → Result Draft BlifFault
take_entry library draft line =
    take_as library (kind_of line) draft line.number (other_words line.words) line.words

-- the next step after one without a fault; a fault stays
abbrev pub onward :
    {A : Type 0} → Result Draft BlifFault → (Draft → Result A BlifFault) → Result A BlifFault
onward (Ok draft) next = next draft
onward (Err fault) next = Err fault

-- the draft with all of some lines
unfoldable pub take_entries : Option (List TheGate) → Draft → List Entry → Result Draft BlifFault
take_entries library draft [] = Ok draft
take_entries library draft (line ∷ lines) = onward (take_entry library draft line) (λ next. take_entries library next lines)

-- the draft before the first line
abbrev pub no_lines : Draft
no_lines = record {
  begun = false;
  ended = false;
  has_part = false;
  has_kiss = false;
  has_instances = false;
  name = codes "top";
  lists_inputs = false;
  inputs = [];
  lists_outputs = false;
  outputs = [];
  ports = [];
  clocks = [];
  drives = [];
  reads = [];
  inner = [];
  timing = None;
  mixed = None;
  latches = [];
  model_tables = [];
  tables = [];
  reading = None;
  nodes = 0;
}

-- the tables of the model, given the last ones that were read
abbrev pub model_of : Bool → List Table → List Table → List Table
model_of true model tables = model
model_of false model tables = tables

-- the tables of the don't-care part, given the last ones that were read
abbrev pub part_of : Bool → List Table → List Table
part_of true tables = tables
part_of false tables = []

-- what a draft tells of the whole after the last line; ports that no line lists are found, the
-- inputs among the signals that tables, latches and gates read before a line lists inputs
abbrev pub told_of : Draft → Told
told_of draft = record {
  has_kiss = draft.has_kiss;
  has_nodes = not (is_none draft.drives);
  has_instances = draft.has_instances;
  name = draft.name;
  lists_inputs = draft.lists_inputs;
  listed_inputs = draft.inputs;
  lists_outputs = draft.lists_outputs;
  listed_outputs = draft.outputs;
  ports = draft.ports;
  inputs = listed_or draft.lists_inputs draft.inputs (names_beside draft.drives draft.inner);
  outputs = listed_or draft.lists_outputs draft.outputs (names_beside draft.reads draft.drives);
  clocks = draft.clocks;
  drives = draft.drives;
  reads = draft.reads;
  timing = draft.timing;
  mixed = draft.mixed;
  latches = draft.latches;
  tables = model_of draft.has_part draft.model_tables (tables_with draft.tables draft.reading);
  dont_care = part_of draft.has_part (tables_with draft.tables draft.reading);
}

-- the draft after the last line, with its ports and with the tables of the model and of the part
unfoldable pub settled : Draft → Draft
settled draft = record draft {
  inputs = (told_of draft).inputs;
  outputs = (told_of draft).outputs;
  model_tables = (told_of draft).tables;
  tables = (told_of draft).dont_care;
  reading = None;
}

-- what a draft tells of the whole when it is settled, but for the ports that lines list
abbrev pub settled_told : Draft → Told
settled_told draft = record (told_of draft) {
  inputs = draft.inputs;
  outputs = draft.outputs;
  tables = draft.model_tables;
  dont_care = draft.tables;
}

-- the tables drive different signals if no port occurs twice and no signal is driven twice
abbrev pub HasApartTables : Told → Type 0
HasApartTables told =
    first_listed_twice told.listed_inputs told.listed_outputs told.ports ≡ None
    → first_again told.inputs told.drives ≡ None
    → all_different (outputs_of told.tables) ≡ true

-- what is read of a draft after the last line
abbrev pub finished : Draft → Result Content BlifFault
finished draft = read_told (told_of draft)

-- what is read after the last line, if no line had a fault
abbrev pub finish : Result Draft BlifFault → Result Content BlifFault
finish taken = onward taken finished

-- the answer and the result of a step, compared with what they should be; want of memory is always
-- allowed
abbrev pub Takes : Result (Unit {0}) (ReadFault BlifFault) → Draft → Result Draft BlifFault → Type 0
Takes (Ok done) draft should = should ≡ Ok draft
Takes (Err (read_fault.Fault fault)) draft should = should ≡ Err fault
Takes (Err read_fault.Memory) draft should = Unit {0}

-- a line of a kind is taken, whatever the library and the words of the whole line are
abbrev pub TakesLine : Keyword → Draft → ℕ → List (List ℕ)
    → Result (Unit {0}) (ReadFault BlifFault) → Draft → Type 0
TakesLine kind before number words answer after =
    (library : Option (List TheGate)) (whole : List (List ℕ)) → Takes answer after (take_as library kind before number words whole)

-- the answer for a line of a gate, compared with the fault and the tables that it should have; want
-- of memory is always allowed
abbrev pub IsTable : Result Table (ReadFault BlifFault) → Option BlifFault → List Table → Type 0
IsTable (Ok table) fault tables = (fault ≡ None) × (tables ≡ table ∷ [])
IsTable (Err (read_fault.Fault one)) fault tables = fault ≡ Some one
IsTable (Err read_fault.Memory) fault tables = Unit {0}

-- What a model's logical lines are read as: the first fault, or the circuit that they describe, or
-- the head of a machine. Source: BLIF appendix of the SIS report (UCB/ERL M92/41): a model is its
-- ports, clocks, latches and tables; several port lines add up, and ports without a line are found;
-- tables may come in any order; each signal has one driver, and tables form no cycle; tables after
-- `.exdc` are the don't-care part. That all latches share one clock, and the order of the causes,
-- are the project's own. A model with a KISS2 part and
-- without a table, a latch, a gate or a `.subckt` line of its own is a machine; the lines of that
-- part are not among these lines. A `.subckt` line says nothing more of the model here: where a
-- file has several models, the lines of an instance stand in its place. What is wrong with the
-- whole, and what is read of it, is defined by what all lines tell (`Told`).
use Rattle.std.specs.Prelude.{◌≡◌, ℕ, ◌-◌, Bool, true, false, not, ◌&&◌, ◌==◌, Option, Some, None, Result, Ok, Err, List, [], ◌∷◌, ◌++◌, map, length, take, drop, find, flat_map, take_while, bytes_eq, codes, slice_index, if◌then◌else◌}
use Rattle.std.specs.List.{filter, list_any}
use Rattle.std.specs.Option.{option_map, option_or}
use Rattle.circuit_model.specs.Names.{has}
use Rattle.circuit_model.specs.Soundness.{outputs_of, control_of}
use Rattle.circuit_model.specs.declared.circuit.Kind.{Kind}
use Rattle.circuit_model.specs.declared.circuit.Kind.TheVariants.{Fe, Re, Ah, Al}
use Rattle.circuit_model.specs.declared.circuit.Timing.{Timing}
use Rattle.circuit_model.specs.declared.circuit.Tri.{Tri}
use Rattle.circuit_model.specs.declared.circuit.Table.{Table}
use Rattle.circuit_model.specs.declared.circuit.Latch.{Latch as TheLatch}
use Rattle.circuit_model.specs.declared.circuit.Circuit.{Circuit}
use Rattle.circuit_checks.specs.NameChecks.{first_again, first_missing, first_listed_twice}
use Rattle.circuit_checks.specs.Cycles.{first_on_cycle}
use Rattle.circuit_checks.specs.PartChecks.{first_bad_part_name}
use Rattle.circuit_tables.specs.Folding.{each_once, folded}
use Rattle.sis_text.specs.Entries.{Entry}
use Rattle.line_words.specs.LineWords.{first_word, other_words, character_of}
use Rattle.genlib_format.specs.declared.gate.Gate.{Gate as TheGate}
use Rattle.blif_gates.specs.declared.reading.GateFault.{GateFault}
use Rattle.blif_gates.specs.GateLines.{signals_of, read_gate}
use Rattle.blif_lines.specs.Keyword.{kind_of, is_row}
use Rattle.blif_lines.specs.Lines.{input_words, last_word, joined, output_character, first_of, begins_part, has_kiss, is_node_kind, line_fault}
use Rattle.blif_lines.specs.declared.content.Head.{Head}
use Rattle.blif_lines.specs.declared.content.Content.{Content}
use Rattle.blif_lines.specs.declared.content.Content.TheVariants as content
use Rattle.blif_lines.specs.declared.keyword.Keyword.{Keyword}
use Rattle.blif_lines.specs.declared.keyword.Keyword.TheVariants.{Model, Inputs, Outputs, Clock, Names, Latch, Gate, Subckt}
use Rattle.blif_lines.specs.declared.fault.BlifFault.{BlifFault}
use Rattle.sis_text.specs.declared.read_fault.ReadFault.{ReadFault}
use Rattle.sis_text.specs.declared.read_fault.ReadFault.TheVariants as read_fault
use Rattle.blif_lines.specs.declared.fault.BlifFault.TheVariants.{NameTwice, MixedClock, GatedClock, TwoDrivers, Undriven, BadExdc, Cycle}

-- the first fault of a line, in file order
unfoldable pub first_line_fault : Option (List TheGate) → List Entry → List Entry → Option BlifFault
first_line_fault library back [] = None
first_line_fault library back (line ∷ lines) = option_or (line_fault library back line) (first_line_fault library (line ∷ back) lines)

-- the words of all lines, each line by its kind and its words after the first
abbrev pub of_lines : {A : Type 0} → (Keyword → List (List ℕ) → List A) → List Entry → List A
of_lines words_of lines = flat_map (λ line. words_of (kind_of line) (other_words line.words)) lines

-- the lines of the model itself: those before the don't-care part
unfoldable pub model_lines : List Entry → List Entry
model_lines lines = take_while (λ line. not (begins_part (kind_of line))) lines

-- the lines of the don't-care part: the one that begins it, and those after it
unfoldable pub part_lines : List Entry → List Entry
part_lines lines = drop (length (model_lines lines)) lines

-- the inputs that a line lists
abbrev pub listed_inputs : Keyword → List (List ℕ) → List (List ℕ)
listed_inputs Inputs words = words
listed_inputs kind words = []

-- the outputs that a line lists
abbrev pub listed_outputs : Keyword → List (List ℕ) → List (List ℕ)
listed_outputs Outputs words = words
listed_outputs kind words = []

-- the ports that a line lists
abbrev pub listed_ports : Keyword → List (List ℕ) → List (List ℕ)
listed_ports Inputs words = words
listed_ports Outputs words = words
listed_ports kind words = []

-- the clocks that a line lists
abbrev pub listed_clocks : Keyword → List (List ℕ) → List (List ℕ)
listed_clocks Clock words = words
listed_clocks kind words = []

-- the input of a `.latch` line
abbrev pub latch_input : List (List ℕ) → List (List ℕ)
latch_input words = take 1 words

-- the output of a `.latch` line
abbrev pub latch_output : List (List ℕ) → List (List ℕ)
latch_output [] = []
latch_output (input ∷ words) = take 1 words

-- the table of a gate, if its cell and its pairs are right
abbrev pub right_table : Result Table GateFault → List Table
right_table (Ok table) = table ∷ []
right_table (Err fault) = []

-- the table of the words of a `.gate` line, by a library that may be missing
abbrev pub gate_tables : Option (List TheGate) → List (List ℕ) → List Table
gate_tables None words = []
gate_tables (Some library) words = right_table (read_gate library (first_word words) (other_words words))

-- the signals that the table of a gate reads, in the order of the pairs
abbrev pub gate_inputs : Option (List TheGate) → List (List ℕ) → List (List ℕ)
gate_inputs library words = flat_map (λ (table : Table). filter (has table.inputs) (signals_of (other_words words))) (gate_tables library words)

-- the signal that a line drives
abbrev pub driven_by : Option (List TheGate) → Keyword → List (List ℕ) → List (List ℕ)
driven_by library Names words = last_word words ∷ []
driven_by library Latch words = latch_output words
driven_by library Gate words = outputs_of (gate_tables library words)
driven_by library kind words = []

-- the signals that a table, a latch or a gate reads
abbrev pub read_within : Option (List TheGate) → Keyword → List (List ℕ) → List (List ℕ)
read_within library Names words = input_words words
read_within library Latch words = latch_input words
read_within library Gate words = gate_inputs library words
read_within library kind words = []

-- the signals that a line reads: that of a table, a latch, a gate or of outputs
abbrev pub read_by : Option (List TheGate) → Keyword → List (List ℕ) → List (List ℕ)
read_by library Outputs words = words
read_by library kind words = read_within library kind words

-- the signals that lines drive, in file order
unfoldable pub drives_in : Option (List TheGate) → List Entry → List (List ℕ)
drives_in library lines = of_lines (driven_by library) lines

-- the signals that tables, latches and gates read, in file order
unfoldable pub reads_within : Option (List TheGate) → List Entry → List (List ℕ)
reads_within library lines = of_lines (read_within library) lines

-- the signals that lines read, in file order
unfoldable pub reads_in : Option (List TheGate) → List Entry → List (List ℕ)
reads_in library lines = of_lines (read_by library) lines

-- whether a kind is that of lines of inputs
abbrev pub is_inputs_kind : Keyword → Bool
is_inputs_kind Inputs = true
is_inputs_kind kind = false

-- whether a kind is that of lines of outputs
abbrev pub is_outputs_kind : Keyword → Bool
is_outputs_kind Outputs = true
is_outputs_kind kind = false

-- whether a line of inputs is among lines
unfoldable pub lists_inputs : List Entry → Bool
lists_inputs lines = list_any (λ line. is_inputs_kind (kind_of line)) lines

-- whether a line of outputs is among lines
unfoldable pub lists_outputs : List Entry → Bool
lists_outputs lines = list_any (λ line. is_outputs_kind (kind_of line)) lines

-- the names that are not among others, each once, in order of first mention
unfoldable pub names_beside : List (List ℕ) → List (List ℕ) → List (List ℕ)
names_beside others names = each_once (filter (λ name. not (has others name)) names)

-- the ports that lines list; those that are found if no line lists any
abbrev pub listed_or : Bool → List (List ℕ) → List (List ℕ) → List (List ℕ)
listed_or true listed found = listed
listed_or false listed found = found

-- the inputs: those that lines list; without such a line the signals that tables, latches and gates
-- read and nothing drives
unfoldable pub inputs_in : Option (List TheGate) → List Entry → List (List ℕ)
inputs_in library lines =
    listed_or (lists_inputs lines) (of_lines listed_inputs lines)
    (names_beside (drives_in library lines) (reads_within library lines))

-- the outputs: those that lines list; without such a line the signals that are driven and that no
-- table, latch or gate reads
unfoldable pub outputs_in : Option (List TheGate) → List Entry → List (List ℕ)
outputs_in library lines =
    listed_or (lists_outputs lines) (of_lines listed_outputs lines)
    (names_beside (reads_within library lines) (drives_in library lines))

-- the ports that lines list, in file order
unfoldable pub ports_in : List Entry → List (List ℕ)
ports_in lines = of_lines listed_ports lines

-- the clocks that lines list, in file order
unfoldable pub clocks_in : List Entry → List (List ℕ)
clocks_in lines = of_lines listed_clocks lines

-- the start value of a latch, by the words after its output: the last of one or three, and 3, which
-- is unknown, if none is written
abbrev pub init_of : List (List ℕ) → ℕ
init_of (init ∷ []) = slice_index init 0 - 48
init_of (kind ∷ control ∷ init ∷ words) = slice_index init 0 - 48
init_of words = 3

-- the latch of the words of a line, if there are two or more
abbrev pub latch_of : List (List ℕ) → List TheLatch
latch_of (input ∷ output ∷ rest) = record { input = input; output = output; init = init_of rest } ∷ []
latch_of words = []

-- the latch of a line, if it is a `.latch` line
abbrev pub latches_by : Keyword → List (List ℕ) → List TheLatch
latches_by Latch words = latch_of words
latches_by kind words = []

-- the latches of lines, in file order
unfoldable pub latches_in : List Entry → List TheLatch
latches_in lines = of_lines latches_by lines

-- the kind of a latch by its word
abbrev pub kind_by : List ℕ → Kind
kind_by word =
    if bytes_eq word (codes "fe") then Fe
    else (if bytes_eq word (codes "re") then Re
    else (if bytes_eq word (codes "ah") then Ah else Al))

-- the control of a latch by its word; none for `NIL`
abbrev pub control_by : List ℕ → Option (List ℕ)
control_by word = if bytes_eq word (codes "NIL") then None else Some word

-- the kind and the control of a latch's words, if they are written
abbrev pub timing_of : List (List ℕ) → Option Timing
timing_of (input ∷ output ∷ kind ∷ control ∷ words) = Some (record { kind = kind_by kind; control = control_by control })
timing_of words = None

-- whether a kind is that of latches
abbrev pub is_latch_line : Keyword → Bool
is_latch_line Latch = true
is_latch_line kind = false

-- the lines of latches
abbrev pub latch_lines : List Entry → List Entry
latch_lines lines = filter (λ line. is_latch_line (kind_of line)) lines

-- the timing of a line's latch
abbrev pub timing_at : Entry → Option Timing
timing_at line = timing_of (other_words line.words)

-- the timing of the first of some lines
abbrev pub first_timing : List Entry → Option Timing
first_timing [] = None
first_timing (line ∷ lines) = timing_at line

-- the timing of the first latch, which all latches share unless one is mixed
unfoldable pub timing_in : List Entry → Option Timing
timing_in lines = first_timing (latch_lines lines)

-- whether two kinds are the same
abbrev pub same_kind : Kind → Kind → Bool
same_kind Fe Fe = true
same_kind Re Re = true
same_kind Ah Ah = true
same_kind Al Al = true
same_kind kind other = false

-- whether two controls are the same
abbrev pub same_control : Option (List ℕ) → Option (List ℕ) → Bool
same_control None None = true
same_control (Some name) (Some other) = bytes_eq name other
same_control control other = false

-- whether two timings are the same, or both missing
abbrev pub same_timing : Option Timing → Option Timing → Bool
same_timing None None = true
same_timing (Some timing) (Some other) = same_kind timing.kind other.kind && same_control timing.control other.control
same_timing timing other = false

-- the line number of the first latch whose timing is not that of the first latch
unfoldable pub mixed_clock : List Entry → Option ℕ
mixed_clock lines =
    option_map (λ (line : Entry). line.number) (find (λ line. not (same_timing (timing_in lines) (timing_at line))) (latch_lines lines))

-- the characters of a row
abbrev pub row_of : ℕ → List ℕ → List Tri
row_of width bytes = map character_of (take width bytes)

-- the phase of a table: that of its first row, which all share; 1 without rows
abbrev pub phase_by : ℕ → List (List ℕ) → Bool
phase_by width [] = true
phase_by width (row ∷ rows) = output_character width row == 49

-- the table of a `.names` line's words and its rows
unfoldable pub table_of : List (List ℕ) → List (List ℕ) → Table
table_of words rows = record {
  inputs = input_words words;
  output = last_word words;
  rows = map (row_of (length words - 1)) rows;
  phase = phase_by (length words - 1) rows;
}

-- the table of a line, as it is written, with the rows that follow it; that of a gate has its rows
-- from the library
abbrev pub tables_by : Option (List TheGate) → Keyword → List (List ℕ) → List (List ℕ) → List Table
tables_by library Names words rows = table_of words rows ∷ []
tables_by library Gate words rows = gate_tables library words
tables_by library kind words rows = []

-- the tables of lines, in file order
unfoldable pub tables_in : Option (List TheGate) → List Entry → List Table
tables_in library [] = []
tables_in library (line ∷ lines) =
    tables_by library (kind_of line) (other_words line.words) (map (λ (row : Entry). joined row.words) (take_while is_row lines))
    ++ tables_in library lines

-- the name of the model: that of a `.model` line, `top` without one
abbrev pub named_by : Keyword → List (List ℕ) → List ℕ
named_by Model (word ∷ words) = word
named_by kind words = codes "top"

-- the name of the model, by the first line
unfoldable pub model_name : List Entry → List ℕ
model_name [] = codes "top"
model_name (line ∷ lines) = named_by (kind_of line) (other_words line.words)

-- whether a table, a latch or a gate is among lines
unfoldable pub has_nodes : List Entry → Bool
has_nodes lines = list_any (λ line. is_node_kind (kind_of line)) lines

-- whether a kind is that of instances
abbrev pub is_instance_kind : Keyword → Bool
is_instance_kind Subckt = true
is_instance_kind kind = false

-- whether a `.subckt` line is among lines
unfoldable pub has_instances : List Entry → Bool
has_instances lines = list_any (λ line. is_instance_kind (kind_of line)) lines

-- what the lines of a model tell of the whole: whether a KISS2 part begins among them; of the model
-- itself, whether it has a table, a latch or a gate, and a `.subckt` line, its name, whether lines
-- list inputs and outputs, those that they list, all listed ports in order, the inputs and the
-- outputs, listed or found, its clocks, the signals that are driven and those that are read, the
-- timing of its latches and the line of the first that is timed otherwise, its latches and tables;
-- last the tables of the don't-care part
pub record Told : Type 0 where
  pub has_kiss : Bool
  pub has_nodes : Bool
  pub has_instances : Bool
  pub name : List ℕ
  pub lists_inputs : Bool
  pub listed_inputs : List (List ℕ)
  pub lists_outputs : Bool
  pub listed_outputs : List (List ℕ)
  pub ports : List (List ℕ)
  pub inputs : List (List ℕ)
  pub outputs : List (List ℕ)
  pub clocks : List (List ℕ)
  pub drives : List (List ℕ)
  pub reads : List (List ℕ)
  pub timing : Option Timing
  pub mixed : Option ℕ
  pub latches : List TheLatch
  pub tables : List Table
  pub dont_care : List Table

-- what lines tell, with a library if there is one
unfoldable pub told_by : Option (List TheGate) → List Entry → Told
told_by library lines = record {
  has_kiss = has_kiss lines;
  has_nodes = has_nodes (model_lines lines);
  has_instances = has_instances (model_lines lines);
  name = model_name lines;
  lists_inputs = lists_inputs (model_lines lines);
  listed_inputs = of_lines listed_inputs (model_lines lines);
  lists_outputs = lists_outputs (model_lines lines);
  listed_outputs = of_lines listed_outputs (model_lines lines);
  ports = ports_in (model_lines lines);
  inputs = inputs_in library (model_lines lines);
  outputs = outputs_in library (model_lines lines);
  clocks = clocks_in (model_lines lines);
  drives = drives_in library (model_lines lines);
  reads = reads_in library (model_lines lines);
  timing = timing_in (model_lines lines);
  mixed = mixed_clock (model_lines lines);
  latches = latches_in (model_lines lines);
  tables = tables_in library (model_lines lines);
  dont_care = tables_in library (part_lines lines);
}

-- the leaves: inputs and latch outputs
abbrev pub leaves_of : Told → List (List ℕ)
leaves_of told = told.inputs ++ map (λ (latch : TheLatch). latch.output) told.latches

-- what is wrong with the latches' timing: the line of the first whose timing differs, a control
-- that is driven
unfoldable pub timing_fault : Option ℕ → Option Timing → List (List ℕ) → Option BlifFault
timing_fault mixed timing drives = first_of
    (option_map (λ number. MixedClock number) mixed
    ∷ option_map (λ name. GatedClock name) (find (has drives) (control_of timing)) ∷ [])

-- what is wrong before ports are found: a port that is listed twice, the timing of the latches
unfoldable pub listed_fault : Told → Option BlifFault
listed_fault told = first_of
    (option_map (λ name. NameTwice name)
    (first_listed_twice told.listed_inputs told.listed_outputs told.ports)
    ∷ timing_fault told.mixed told.timing told.drives ∷ [])

-- what is wrong with the drivers, by the inputs and the driven and read signals: a signal driven
-- twice, one that is read and not driven
unfoldable pub drivers_fault : List (List ℕ) → List (List ℕ) → List (List ℕ) → Option BlifFault
drivers_fault inputs drives reads = first_of
    (option_map (λ name. TwoDrivers name) (first_again inputs drives)
    ∷ option_map (λ name. Undriven name) (first_missing (inputs ++ drives) reads) ∷ [])

-- what is wrong with the tables, by the leaves, the don't-care part and the model's tables: a name
-- of the part, a table that is reached from itself
unfoldable pub tables_fault : List (List ℕ) → List Table → List Table → Option BlifFault
tables_fault leaves dont_care tables = first_of
    (option_map (λ name. BadExdc name) (first_bad_part_name leaves dont_care)
    ∷ option_map (λ name. Cycle name) (first_on_cycle tables) ∷ [])

-- what is wrong with the signals once the ports are known: their drivers, then the tables
unfoldable pub signals_fault : Told → Option BlifFault
signals_fault told = first_of
    (drivers_fault told.inputs told.drives told.reads
    ∷ tables_fault (leaves_of told) told.dont_care told.tables ∷ [])

-- what is wrong with the whole
unfoldable pub whole_fault : Told → Option BlifFault
whole_fault told = first_of (listed_fault told ∷ signals_fault told ∷ [])

-- the circuit of what is told: each table of the model has each of its inputs once, those of the
-- don't-care part are as they are written
abbrev pub circuit_of : Told → Circuit
circuit_of told = record {
  name = told.name;
  inputs = told.inputs;
  outputs = told.outputs;
  clocks = told.clocks;
  timing = told.timing;
  latches = told.latches;
  tables = map folded told.tables;
  dont_care = told.dont_care;
}

-- whether a machine is told: a KISS2 part begins, and the model itself has no table, latch or gate
-- and no `.subckt` line
abbrev pub is_machine : Told → Bool
is_machine told = told.has_kiss && not told.has_nodes && not told.has_instances

-- names that are listed, if a line lists any
abbrev pub listed_where : Bool → List (List ℕ) → Option (List (List ℕ))
listed_where listed names = if listed then Some names else None

-- what is told of a machine outside its KISS2 part: its name, and its ports if lines list them
abbrev pub head_of : Told → Head
head_of told = record {
  name = told.name;
  inputs = listed_where told.lists_inputs told.listed_inputs;
  outputs = listed_where told.lists_outputs told.listed_outputs;
}

-- what is wrong with a machine's listed ports: one that is listed twice, among the inputs, among
-- the outputs, or once among each, that is, twice among all ports
abbrev pub head_fault : Told → Option BlifFault
head_fault told = option_map (λ name. NameTwice name) (first_listed_twice told.ports [] told.ports)

-- a fault, or what the rest is read as if there is none
abbrev pub first_fault : {A : Type 0} → Option BlifFault → Result A BlifFault → Result A BlifFault
first_fault None read = read
first_fault (Some fault) read = Err fault

-- a fault, or what is read if there is none
abbrev pub unless : {A : Type 0} → Option BlifFault → A → Result A BlifFault
unless fault read = first_fault fault (Ok read)

-- what is read of what is told, as a machine or not
abbrev pub read_as : Bool → Told → Result Content BlifFault
read_as true told = unless (head_fault told) (content.Head (head_of told))
read_as false told = unless (whole_fault told) (content.Circuit (circuit_of told))

-- what is read of what lines tell that have no fault of their own
unfoldable pub read_told : Told → Result Content BlifFault
read_told told = read_as (is_machine told) told

-- what a model's logical lines are read as, with a library if there is one: the first fault of a
-- line, then one of the whole, otherwise the circuit, or the head of a machine
unfoldable pub read_lines : Option (List TheGate) → List Entry → Result Content BlifFault
read_lines library lines =
    first_fault (first_line_fault library [] lines) (read_told (told_by library lines))

-- what a reader answers, compared with what it should; want of memory is always allowed
abbrev pub Reads : Result Content (ReadFault BlifFault) → Result Content BlifFault → Type 0
Reads (Ok read) should = should ≡ Ok read
Reads (Err (read_fault.Fault fault)) should = should ≡ Err fault
Reads (Err read_fault.Memory) should = Unit {0}

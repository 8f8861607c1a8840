-- What is wrong with one logical line of a model, by what the lines before it tell. Source: BLIF
-- appendix of the SIS report (UCB/ERL M92/41): `.model`, `.inputs`, `.outputs`, `.clock`, `.names`
-- with its rows, `.latch`, `.gate`, `.subckt`, `.start_kiss`, `.exdc` followed by the don't-care
-- part, and `.end`. The order of the causes and the limits are the project's own. The lines of a
-- KISS2 part are not among these lines, except the one that begins it; lines of another model are
-- only where they stand in place of an instance. The lines before a line are given newest first.
use Rattle.std.specs.Prelude.{ℕ, ◌+◌, ◌-◌, Bool, true, false, not, ◌&&◌, ◌||◌, ◌==◌, nat_le, nat_lt, Option, Some, None, Result, Ok, Err, List, [], ◌∷◌, map, reverse, length, take, drop, find, flat_map, take_while, count_by, codes, bytes_eq, slice_index, if◌then◌else◌}
use Rattle.std.specs.List.{list_all, list_any}
use Rattle.std.specs.Option.{option_map}
use Rattle.sis_text.specs.Entries.{Entry}
use Rattle.line_words.specs.LineWords.{first_word, other_words, long_name, is_character}
use Rattle.circuit_model.specs.declared.circuit.Table.{Table}
use Rattle.genlib_format.specs.declared.gate.Gate.{Gate as TheGate}
use Rattle.blif_gates.specs.declared.reading.GateFault.{GateFault}
use Rattle.blif_gates.specs.declared.reading.GateFault.TheVariants as gate
use Rattle.blif_gates.specs.GateLines.{pin_in, signal_in, is_pair, signals_of, read_gate}
use Rattle.blif_lines.specs.Keyword.{kind_of, is_row}
use Rattle.blif_lines.specs.declared.keyword.Keyword.{Keyword}
use Rattle.blif_lines.specs.declared.keyword.Keyword.TheVariants.{Model, Inputs, Outputs, Clock, Names, Latch, Gate, Subckt, StartKiss, DontCare, End, Skipped, Row, Other}
use Rattle.blif_lines.specs.declared.part.Part.{Part}
use Rattle.blif_lines.specs.declared.part.Part.TheVariants as part
use Rattle.blif_lines.specs.declared.fault.LimitKind.TheVariants as limit
use Rattle.blif_lines.specs.declared.fault.BlifFault.{BlifFault}
use Rattle.blif_lines.specs.declared.fault.BlifFault.TheVariants.{UnknownWord, BadArity, BadRow, MixedPhase, BadLatch, NoLibrary, UnknownGate, BadPins, Limit}
use Rattle.sis_base.specs.declared.limits.TheConstants.{MAX_INPUTS, MAX_NODES, MAX_ROWS}

-- a fault if a test holds
abbrev pub when : Bool → BlifFault → Option BlifFault
when test fault = if test then Some fault else None

-- the first cause that holds
unfoldable pub first_of : List (Option BlifFault) → Option BlifFault
first_of [] = None
first_of (None ∷ causes) = first_of causes
first_of (Some fault ∷ causes) = Some fault

-- the inputs of a `.names` line: all its words but the last
abbrev pub input_words : List (List ℕ) → List (List ℕ)
input_words words = take (length words - 1) words

-- the last of some words: the output of a `.names` line
unfoldable pub last_word : List (List ℕ) → List ℕ
last_word [] = []
last_word (word ∷ []) = word
last_word (word ∷ next ∷ words) = last_word (next ∷ words)

-- whether a list has no item
abbrev pub is_none : {A : Type 0} → List A → Bool
is_none [] = true
is_none (first ∷ rest) = false

-- whether a kind is that of an end
abbrev pub is_end_kind : Keyword → Bool
is_end_kind End = true
is_end_kind kind = false

-- whether an `.end` line is among the lines before
unfoldable pub is_ended : List Entry → Bool
is_ended back = list_any (λ line. is_end_kind (kind_of line)) back

-- whether a kind is that of the line that begins the don't-care part
abbrev pub begins_part : Keyword → Bool
begins_part DontCare = true
begins_part kind = false

-- whether the don't-care part begins among the lines before
unfoldable pub has_part : List Entry → Bool
has_part back = list_any (λ line. begins_part (kind_of line)) back

-- the part of a line, by whether there was an end and whether the don't-care part has begun: the
-- model itself, its don't-care part, or after the end
unfoldable pub place_at : Bool → Bool → Part
place_at ended has_part =
    if ended then part.Behind else (if has_part then part.DontCare else part.Model)

-- the part of a line, by the lines before it
unfoldable pub part_behind : List Entry → Part
part_behind back = place_at (is_ended back) (has_part back)

-- whether a kind is that of the line that begins a KISS2 part
abbrev pub begins_kiss : Keyword → Bool
begins_kiss StartKiss = true
begins_kiss kind = false

-- whether a KISS2 part begins among some lines
unfoldable pub has_kiss : List Entry → Bool
has_kiss lines = list_any (λ line. begins_kiss (kind_of line)) lines

-- whether a part is the model itself
abbrev pub is_in_model : Part → Bool
is_in_model part.Model = true
is_in_model place = false

-- whether a part is after the end
abbrev pub is_behind : Part → Bool
is_behind part.Behind = true
is_behind place = false

-- the lines that count towards the limit of tables and latches: those of tables, latches and gates,
-- also in the don't-care part
abbrev pub is_node_kind : Keyword → Bool
is_node_kind Names = true
is_node_kind Latch = true
is_node_kind Gate = true
is_node_kind kind = false

-- the number of tables, latches and gates in the lines before
unfoldable pub nodes_in : List Entry → ℕ
nodes_in back = count_by (λ line. is_node_kind (kind_of line)) back

-- the first name of more than `MAX_NAME` bytes, by its length
abbrev pub long_fault : List (List ℕ) → Option BlifFault
long_fault names = option_map (λ len. Limit limit.Name len) (long_name names)

-- one more table, latch or gate than `MAX_NODES`
abbrev pub one_too_many : ℕ → Option BlifFault
one_too_many nodes = when (nat_le MAX_NODES nodes) (Limit limit.Tables (MAX_NODES + 1))

-- more than `MAX_INPUTS` inputs, by their number
abbrev pub many_inputs : List (List ℕ) → Option BlifFault
many_inputs inputs = when (nat_lt MAX_INPUTS (length inputs)) (Limit limit.Inputs (length inputs))

-- whether a word is a start value
abbrev pub is_init : List ℕ → Bool
is_init word = bytes_eq word (codes "0") || bytes_eq word (codes "1") || bytes_eq word (codes "2") || bytes_eq word (codes "3")

-- whether a word is the kind of a latch
abbrev pub is_latch_kind : List ℕ → Bool
is_latch_kind word = bytes_eq word (codes "fe") || bytes_eq word (codes "re") || bytes_eq word (codes "ah") || bytes_eq word (codes "al")

-- whether words may follow a latch's signals: its kind with a control, its start value, both or
-- none
abbrev pub is_latch_end : List (List ℕ) → Bool
is_latch_end [] = true
is_latch_end (init ∷ []) = is_init init
is_latch_end (kind ∷ control ∷ []) = is_latch_kind kind
is_latch_end (kind ∷ control ∷ init ∷ []) = is_latch_kind kind && is_init init
is_latch_end (kind ∷ control ∷ init ∷ word ∷ words) = false

-- whether words are those of a latch: its input, its output, and what may follow them
abbrev pub is_latch : List (List ℕ) → Bool
is_latch [] = false
is_latch (input ∷ []) = false
is_latch (input ∷ output ∷ words) = is_latch_end words

-- the words of a latch that are names: its input, its output, and its control if it has one
abbrev pub latch_names : List (List ℕ) → List (List ℕ)
latch_names (input ∷ output ∷ kind ∷ control ∷ words) = input ∷ output ∷ control ∷ []
latch_names words = take 2 words

-- whether a byte is an output's character
abbrev pub is_output_character : ℕ → Bool
is_output_character byte = byte == 48 || byte == 49

-- the words of a row, joined
unfoldable pub joined : List (List ℕ) → List ℕ
joined words = flat_map (λ word. word) words

-- whether bytes are a row of a table of this width: a character for each input, then the output's
unfoldable pub is_row_of : ℕ → List ℕ → Bool
is_row_of width bytes =
    length bytes == width + 1 && list_all is_character (take width bytes) && list_all is_output_character (drop width bytes)

-- the character after those of the inputs
abbrev pub output_character : ℕ → List ℕ → ℕ
output_character width bytes = slice_index bytes width

-- what is known of a table whose rows are being read: the number of its inputs, the output
-- character of its first row, if it has a row, and the number of its rows
pub record Growing : Type 0 where
  pub width : ℕ
  pub mark : Option ℕ
  pub count : ℕ

-- what the lines before a line tell: whether there is one, the part that the line is in, whether a
-- KISS2 part begins among them, how many tables, latches and gates they have, and the table that a
-- row would belong to
pub record Before : Type 0 where
  pub begun : Bool
  pub place : Part
  pub has_kiss : Bool
  pub nodes : ℕ
  pub table : Option Growing

-- the newest line that is not a row
abbrev pub heading : List Entry → Option Entry
heading back = find (λ line. not (is_row line)) back

-- the rows after the newest line that is not a row, in file order
abbrev pub rows_behind : List Entry → List (List ℕ)
rows_behind back = map (λ (line : Entry). joined line.words) (reverse (take_while is_row back))

-- whether a kind is that of tables with rows of their own
abbrev pub is_table_kind : Keyword → Bool
is_table_kind Names = true
is_table_kind kind = false

-- the output character of the first of some rows
abbrev pub first_mark : ℕ → List (List ℕ) → Option ℕ
first_mark width [] = None
first_mark width (row ∷ rows) = Some (output_character width row)

-- a table of this width with these rows
abbrev pub growing : ℕ → List (List ℕ) → Growing
growing width rows = record { width = width; mark = first_mark width rows; count = length rows }

-- the table under a heading with these rows: rows belong to a `.names` line
abbrev pub table_under : Option Entry → List (List ℕ) → Option Growing
table_under None rows = None
table_under (Some line) rows =
    if is_table_kind (kind_of line) then Some (growing (length (other_words line.words) - 1) rows)
    else None

-- what the lines before a line tell, newest first
abbrev pub told_before : List Entry → Before
told_before back = record {
  begun = not (is_none back);
  place = part_behind back;
  has_kiss = has_kiss back;
  nodes = nodes_in back;
  table = table_under (heading back) (rows_behind back);
}

-- whether a byte is the output character of a table, if it has one
abbrev pub has_mark : Option ℕ → ℕ → Bool
has_mark None byte = true
has_mark (Some mark) byte = byte == mark

-- what is wrong with bytes as a further row of a table
unfoldable pub table_row_fault : Growing → ℕ → List ℕ → Option BlifFault
table_row_fault table number bytes = first_of
    (when (not (is_row_of table.width bytes)) (BadRow number)
    ∷ when (not (has_mark table.mark (output_character table.width bytes))) (MixedPhase number)
    ∷ when (nat_le MAX_ROWS table.count) (Limit limit.Rows (MAX_ROWS + 1))
    ∷ [])

-- what is wrong with bytes as a row, by the table that it would belong to
abbrev pub fault_under : Option Growing → ℕ → List ℕ → Option BlifFault
fault_under None number bytes = Some (BadRow number)
fault_under (Some table) number bytes = table_row_fault table number bytes

-- what is wrong with bytes as a row, by the part that it is in too
unfoldable pub row_fault : Part → Option Growing → ℕ → List ℕ → Option BlifFault
row_fault place table number bytes = first_of
    (when (is_behind place) (UnknownWord number) ∷ fault_under table number bytes ∷ [])

-- what is wrong with the words after the first of a `.model` line; `begun` says whether a line
-- precedes it: where a file has several models, a `.model` line begins the lines of the next one
unfoldable pub model_fault : Bool → ℕ → List (List ℕ) → Option BlifFault
model_fault begun number words = first_of
    (when begun (UnknownWord number) ∷ when (nat_lt 1 (length words)) (BadArity number) ∷ long_fault words ∷ [])

-- what is wrong with a line of ports; in the don't-care part it is skipped
unfoldable pub ports_fault : Part → ℕ → List (List ℕ) → Option BlifFault
ports_fault part.Model number words = long_fault words
ports_fault part.DontCare number words = None
ports_fault part.Behind number words = Some (UnknownWord number)

-- what is wrong with a line of clocks
unfoldable pub clock_fault : Part → ℕ → List (List ℕ) → Option BlifFault
clock_fault place number words = first_of (when (not (is_in_model place)) (UnknownWord number) ∷ long_fault words ∷ [])

-- what is wrong with a `.names` line, after so many tables, latches and gates
unfoldable pub names_fault : Part → ℕ → ℕ → List (List ℕ) → Option BlifFault
names_fault place nodes number words = first_of
    (when (is_behind place) (UnknownWord number) ∷ when (is_none words) (BadArity number) ∷ long_fault words ∷ one_too_many nodes
    ∷ many_inputs (input_words words) ∷ [])

-- what is wrong with a `.latch` line, after so many tables, latches and gates
unfoldable pub latch_fault : Part → ℕ → ℕ → List (List ℕ) → Option BlifFault
latch_fault place nodes number words = first_of
    (when (not (is_in_model place)) (UnknownWord number) ∷ when (not (is_latch words)) (BadLatch number)
    ∷ long_fault (latch_names words) ∷ one_too_many nodes ∷ [])

-- what is wrong with the cell and the pairs of a gate, by the result of a library
abbrev pub cell_fault : ℕ → Result Table GateFault → Option BlifFault
cell_fault number (Ok table) = None
cell_fault number (Err gate.UnknownGate) = Some (UnknownGate number)
cell_fault number (Err gate.BadPins) = Some (BadPins number)

-- the same with a library that may be missing
abbrev pub library_fault : Option (List TheGate) → ℕ → List (List ℕ) → Option BlifFault
library_fault None number words = Some (NoLibrary number)
library_fault (Some library) number words = cell_fault number (read_gate library (first_word words) (other_words words))

-- what is wrong with a `.gate` line, after so many tables, latches and gates
unfoldable pub gate_fault : Option (List TheGate) → Part → ℕ → ℕ → List (List ℕ) → Option BlifFault
gate_fault library place nodes number words = first_of
    (when (not (is_in_model place)) (UnknownWord number) ∷ when (is_none words) (BadArity number) ∷ library_fault library number words
    ∷ long_fault (signals_of (other_words words)) ∷ one_too_many nodes ∷ [])

-- the names in a word of a `.subckt` line: the formal and the actual of a pair
abbrev pub pair_names : List ℕ → List (List ℕ)
pair_names word = if is_pair word then pin_in word ∷ signal_in word ∷ [] else []

-- the names that the words of a `.subckt` line mention: that of its model, then those of its pairs
abbrev pub subckt_names : List (List ℕ) → List (List ℕ)
subckt_names [] = []
subckt_names (model ∷ words) = model ∷ flat_map pair_names words

-- what is wrong with a `.subckt` line by itself; what it says of another model is not looked at
unfoldable pub subckt_fault : Part → ℕ → List (List ℕ) → Option BlifFault
subckt_fault place number words = first_of
    (when (not (is_in_model place)) (UnknownWord number) ∷ when (is_none words) (BadArity number) ∷ long_fault (subckt_names words) ∷ [])

-- what is wrong with the line that begins a KISS2 part; `had` says whether an earlier one began
unfoldable pub start_fault : Part → Bool → ℕ → Option BlifFault
start_fault place had number = when (not (is_in_model place) || had) (UnknownWord number)

-- what is wrong with the line that begins the don't-care part, or with one that is skipped
abbrev pub place_fault : Part → ℕ → Option BlifFault
place_fault place number = when (not (is_in_model place)) (UnknownWord number)

-- what is wrong with a line, by its kind and what the lines before it tell: its number, its words
-- after the first, all words
abbrev pub fault_as :
    Option (List TheGate) → Keyword → Before → ℕ → List (List ℕ) → List (List ℕ)
    → Option BlifFault
fault_as library Model before number words whole = model_fault before.begun number words
fault_as library Inputs before number words whole = ports_fault before.place number words
fault_as library Outputs before number words whole = ports_fault before.place number words
fault_as library Clock before number words whole = clock_fault before.place number words
fault_as library Names before number words whole =
    names_fault before.place before.nodes number words
fault_as library Latch before number words whole =
    latch_fault before.place before.nodes number words
fault_as library Gate before number words whole =
    gate_fault library before.place before.nodes number words
fault_as library Subckt before number words whole = subckt_fault before.place number words
fault_as library StartKiss before number words whole =
    start_fault before.place before.has_kiss number
fault_as library DontCare before number words whole = place_fault before.place number
fault_as library End before number words whole = None
fault_as library Skipped before number words whole = place_fault before.place number
fault_as library Row before number words whole =
    row_fault before.place before.table number (joined whole)
fault_as library Other before number words whole = Some (UnknownWord number)

-- what is wrong with a line, given the lines before it
unfoldable pub line_fault : Option (List TheGate) → List Entry → Entry → Option BlifFault
line_fault library back line =
    fault_as library (kind_of line) (told_before back) line.number (other_words line.words)
    line.words

-- What the logical lines of a KISS2 table are read as: the first fault, or the machine that they
-- describe. Source: SIS report (UCB/ERL M92/41), KISS2 tables: states are those that rows name, in
-- order of first mention; without `.r` the machine starts in the current state of the first row
-- that names one.
use Rattle.std.specs.Prelude.{◌≡◌, ℕ, ◌+◌, Bool, Option, Some, None, Result, Ok, Err, List, [], ◌∷◌, ◌++◌, map, find, reverse, decimal, codes, unwrap_or}
use Rattle.std.specs.Option.{option_map, option_or}
use Rattle.std.specs.List.{filter_map, range_with_len}
use Rattle.sis_text.specs.Entries.{Entry}
use Rattle.circuit_model.specs.Clashes.{first_clash}
use Rattle.circuit_model.specs.declared.machine.Clash.{Clash}
use Rattle.circuit_model.specs.declared.machine.Machine.{Machine}
use Rattle.circuit_model.specs.declared.machine.MachineRow.{MachineRow}
use Rattle.kiss_format.specs.Keywords.{kind_of, is_inputs_kind, is_outputs_kind, before_end}
use Rattle.kiss_format.specs.Statements.{Said, said_by}
use Rattle.kiss_format.specs.Lines.{first_item, place_of, told, line_fault}
use Rattle.kiss_format.specs.declared.draft.Draft.{Draft}
use Rattle.kiss_format.specs.declared.keyword.Keyword.{Keyword}
use Rattle.kiss_format.specs.declared.fault.KissFault.{KissFault}
use Rattle.kiss_format.specs.declared.fault.KissFault.TheVariants.{RowClash, NoReset, NoRows}
use Rattle.sis_text.specs.declared.read_fault.ReadFault.{ReadFault}
use Rattle.sis_text.specs.declared.read_fault.ReadFault.TheVariants as read_fault

-- the state that a machine starts in: the one that is named, otherwise the current state of the
-- first row that has one
abbrev pub reset_place : Option (List ℕ) → List (List ℕ) → List MachineRow → Option ℕ
reset_place (Some name) states rows = place_of states name
reset_place None states rows = first_item (filter_map (λ (row : MachineRow). row.current) rows)

-- the name of a reset state that is not a state of a row
abbrev pub reset_name : Option (List ℕ) → List ℕ
reset_name None = codes "*"
reset_name (Some name) = name

-- made names: a prefix and a number from 0 on
abbrev pub made_names : List ℕ → ℕ → List (List ℕ)
made_names prefix count = map (λ k. prefix ++ decimal k) (range_with_len 0 count)

-- the machine of these parts
abbrev pub machine_with : Option ℕ → Option ℕ → List (List ℕ) → List MachineRow → ℕ → Machine
machine_with inputs outputs states rows reset = record {
  name = codes "top";
  inputs = made_names (codes "IN_") (unwrap_or inputs 0);
  outputs = made_names (codes "OUT_") (unwrap_or outputs 0);
  states = states;
  reset = reset;
  rows = rows;
}

-- the index of the reset state, or the clash of the rows, which are reported by numbers from 1
abbrev pub by_clash : Option Clash → ℕ → Result ℕ KissFault
by_clash None place = Ok place
by_clash (Some clash) place = Err (RowClash (clash.earlier + 1) (clash.later + 1))

-- the index of the reset state of these rows, if there is one
abbrev pub by_place : Option ℕ → Option (List ℕ) → List MachineRow → Result ℕ KissFault
by_place None reset rows = Err (NoReset (reset_name reset))
by_place (Some place) reset rows = by_clash (first_clash rows) place

-- the index of the reset state, or what is wrong with the whole: no row, no reset state, a clash
abbrev pub placed : Option (List ℕ) → List (List ℕ) → List MachineRow → Result ℕ KissFault
placed reset states [] = Err NoRows
placed reset states (row ∷ rows) = by_place (reset_place reset states (row ∷ rows)) reset (row ∷ rows)

-- the machine that starts in the state of an index, or the fault
abbrev pub at_place : Result ℕ KissFault → (ℕ → Machine) → Result Machine KissFault
at_place (Ok place) machine = Ok (machine place)
at_place (Err fault) machine = Err fault

-- what a draft is read as after the last line
unfoldable pub whole : Draft → Result Machine KissFault
whole draft = at_place (placed draft.reset draft.states draft.rows) (machine_with draft.inputs draft.outputs draft.states draft.rows)

-- a fault, or what is read without one
abbrev pub unless : Option KissFault → Result Machine KissFault → Result Machine KissFault
unless None read = read
unless (Some fault) read = Err fault

-- the first fault of a line, in file order, after these statements
unfoldable pub first_line_fault : List Said → List Entry → Option KissFault
first_line_fault before [] = None
first_line_fault before (line ∷ lines) =
    option_or (line_fault before line.number (said_by line.words))
    (first_line_fault (said_by line.words ∷ before) lines)

-- the statements of lines, newest first
abbrev pub statements_of : List Entry → List Said
statements_of lines = reverse (map (λ (line : Entry). said_by line.words) lines)

-- what lines are read as: the first fault of a line, then one of the whole, otherwise the machine
unfoldable pub read_all : List Entry → Result Machine KissFault
read_all lines = unless (first_line_fault [] lines) (whole (told (statements_of lines)))

-- what a table's logical lines are read as, those before the first end
unfoldable pub read_machine_lines : List Entry → Result Machine KissFault
read_machine_lines lines = read_all (before_end lines)

-- the number of the first line of a kind among those that are read
abbrev pub header_line : (Keyword → Bool) → List Entry → Option ℕ
header_line is_kind lines = option_map (λ (line : Entry). line.number) (find (λ line. is_kind (kind_of line)) (before_end lines))

-- the number of the line that gives the number of inputs
unfoldable pub inputs_line : List Entry → Option ℕ
inputs_line lines = header_line is_inputs_kind lines

-- the number of the line that gives the number of outputs
unfoldable pub outputs_line : List Entry → Option ℕ
outputs_line lines = header_line is_outputs_kind lines

-- what a reader answers, compared with what it should; want of memory is always allowed
abbrev pub Reads : Result Machine (ReadFault KissFault) → Result Machine KissFault → Type 0
Reads (Ok machine) should = should ≡ Ok machine
Reads (Err (read_fault.Fault fault)) should = should ≡ Err fault
Reads (Err read_fault.Memory) should = Unit {0}

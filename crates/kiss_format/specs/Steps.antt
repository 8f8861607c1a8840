-- What one more statement adds to a draft, and answers of private functions compared with what they
-- should be. Only clauses of private functions cite this module.
use Rattle.std.specs.Prelude.{◌≡◌, ℕ, Option, Some, None, Result, Ok, Err, [], ◌∷◌, ◌++◌}
use Rattle.std.specs.Option.{option_or}
use Rattle.circuit_model.specs.declared.machine.Machine.{Machine}
use Rattle.kiss_format.specs.Statements.{Said, Inputs, Outputs, Reset, Row, Nothing, NoRow, NoHeader, named}
use Rattle.kiss_format.specs.declared.statement.RowWords.{RowWords}
use Rattle.kiss_format.specs.declared.statement.Statement.{Statement}
use Rattle.kiss_format.specs.declared.statement.Statement.TheVariants as code
use Rattle.kiss_format.specs.Lines.{with_states, row_of, form_fault, limit_fault}
use Rattle.kiss_format.specs.Reader.{whole}
use Rattle.kiss_format.specs.declared.fault.KissFault.{KissFault}
use Rattle.sis_text.specs.declared.read_fault.ReadFault.{ReadFault}
use Rattle.sis_text.specs.declared.read_fault.ReadFault.TheVariants as read_fault
use Rattle.kiss_format.specs.declared.draft.Draft.{Draft}

-- the statement of a row of the code, without its references
abbrev pub said_row : RowWords → Said
said_row row = Row row.input.now row.current.now row.next.now row.output.now

-- a statement of the code, without its references
abbrev pub said : Statement → Said
said (code.Inputs count) = Inputs count
said (code.Outputs count) = Outputs count
said (code.Reset name) = Reset name.now
said (code.Row row) = said_row row
said code.Nothing = Nothing
said code.NoRow = NoRow
said code.NoHeader = NoHeader

-- a draft with one more statement
abbrev pub with_said : Said → Draft → Draft
with_said (Inputs count) draft = record draft { inputs = Some count }
with_said (Outputs count) draft = record draft { outputs = Some count }
with_said (Reset name) draft = record draft { reset = Some name }
with_said (Row input current next output) draft = record draft {
  states = with_states draft.states (named current next);
  rows = draft.rows ++ row_of (with_states draft.states (named current next)) input current next output ∷ [];
}
with_said statement draft = draft

-- the draft before the first line
abbrev pub no_lines : Draft
no_lines = record { inputs = None; outputs = None; reset = None; states = []; rows = [] }

-- what is wrong with a statement after a draft
abbrev pub draft_fault : Draft → ℕ → Said → Option KissFault
draft_fault draft number statement = option_or (form_fault draft number statement) (limit_fault (with_said statement draft))

-- the answer and the draft of a step, compared with the fault and the draft that should be; want of
-- memory is always allowed
abbrev pub Takes : Result (Unit {0}) (ReadFault KissFault) → Draft → Option KissFault → Draft
    → Type 0
Takes (Ok done) draft fault should = (fault ≡ None) × (draft ≡ should)
Takes (Err (read_fault.Fault given)) draft fault should = fault ≡ Some given
Takes (Err read_fault.Memory) draft fault should = Unit {0}

-- the answer and the draft of the lines, compared with what should be read; want of memory is
-- always allowed
abbrev pub Ends : Result (Unit {0}) (ReadFault KissFault) → Draft → Result Machine KissFault
    → Type 0
Ends (Ok done) draft should = should ≡ whole draft
Ends (Err (read_fault.Fault fault)) draft should = should ≡ Err fault
Ends (Err read_fault.Memory) draft should = Unit {0}

-- the answer of a search for the reset state, compared with what it should be; want of memory is
-- always allowed
abbrev pub Places : Result ℕ (ReadFault KissFault) → Result ℕ KissFault → Type 0
Places (Ok place) should = should ≡ Ok place
Places (Err (read_fault.Fault fault)) should = should ≡ Err fault
Places (Err read_fault.Memory) should = Unit {0}

-- a machine without parts
abbrev pub no_parts : Machine
no_parts = record { name = []; inputs = []; outputs = []; states = []; reset = 0; rows = [] }

-- the answer and the result of the last step, compared with what they should be; want of memory is
-- always allowed
abbrev pub Makes : Result (Unit {0}) (ReadFault KissFault) → Machine → Result Machine KissFault
    → Type 0
Makes (Ok done) machine should = should ≡ Ok machine
Makes (Err (read_fault.Fault fault)) machine should = should ≡ Err fault
Makes (Err read_fault.Memory) machine should = Unit {0}

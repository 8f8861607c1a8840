-- The one text of a machine. Source: SIS report (UCB/ERL M92/41), KISS2 tables: `.i`, `.o`, `.p`
-- with the number of rows, `.s` with that of states, `.r` with the reset state, then the rows, `*`
-- for every state and for an open one, then `.e`. Each line is words separated by one blank.
use Rattle.std.specs.Prelude.{ℕ, Option, Some, None, List, [], ◌∷◌, ◌++◌, map, length, slice_get, unwrap_or, decimal, codes}
use Rattle.sis_base.specs.Written.{Written, lines_text}
use Rattle.circuit_model.specs.Text.{dotted, character}
use Rattle.circuit_model.specs.declared.machine.Machine.{Machine}
use Rattle.circuit_model.specs.declared.machine.MachineRow.{MachineRow}

-- the name of the state of an index; a sound machine has one for each index that it mentions
abbrev pub state_at : List (List ℕ) → ℕ → List ℕ
state_at states place = unwrap_or (slice_get states place) []

-- a state by its name; `*` for every state, or an open one
abbrev pub state_word : List (List ℕ) → Option ℕ → List ℕ
state_word states None = codes "*"
state_word states (Some place) = state_at states place

-- a row: its input, the current state, the next one, and its outputs
unfoldable pub row_line : List (List ℕ) → MachineRow → Written
row_line states row = record {
  first = map character row.input;
  others = state_word states row.current ∷ state_word states row.next ∷ map character row.output ∷ [];
}

-- the lines before the rows
unfoldable pub header_lines : Machine → List Written
header_lines machine =
    dotted (codes ".i") (decimal (length machine.inputs) ∷ []) ∷ dotted (codes ".o") (decimal (length machine.outputs) ∷ [])
    ∷ dotted (codes ".p") (decimal (length machine.rows) ∷ []) ∷ dotted (codes ".s") (decimal (length machine.states) ∷ [])
    ∷ dotted (codes ".r") (state_at machine.states machine.reset ∷ []) ∷ []

-- all lines of a machine, in order
unfoldable pub machine_lines : Machine → List Written
machine_lines machine =
    header_lines machine ++ (map (row_line machine.states) machine.rows ++ dotted (codes ".e") [] ∷ [])

-- the text of a machine
unfoldable pub machine_text_of : Machine → List ℕ
machine_text_of machine = lines_text (machine_lines machine)

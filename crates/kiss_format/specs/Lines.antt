-- What statements of a KISS2 table tell, and what is wrong with a line after them. Source: SIS
-- report (UCB/ERL M92/41), KISS2 tables: states are those that rows name, in order of first
-- mention. The order of the causes and the limits are the project's own. The statements before a
-- line are given newest first.
use Rattle.std.specs.Prelude.{◌+◌, ℕ, Bool, true, false, not, ◌&&◌, ◌||◌, ◌==◌, nat_lt, Option, Some, None, List, [], ◌∷◌, ◌++◌, length, map, position, bytes_eq, if◌then◌else◌}
use Rattle.std.specs.List.{filter_map}
use Rattle.std.specs.Option.{option_map, option_or}
use Rattle.circuit_model.specs.Names.{has}
use Rattle.circuit_model.specs.MachineSoundness.{is_any}
use Rattle.circuit_model.specs.declared.machine.MachineRow.{MachineRow}
use Rattle.line_words.specs.LineWords.{long_name, character_of}
use Rattle.kiss_format.specs.Statements.{Said, Inputs, Outputs, Reset, Row, Nothing, NoRow, NoHeader, named}
use Rattle.kiss_format.specs.declared.draft.Draft.{Draft}
use Rattle.kiss_format.specs.declared.fault.LimitKind.TheVariants as limit
use Rattle.kiss_format.specs.declared.fault.KissFault.{KissFault}
use Rattle.kiss_format.specs.declared.fault.KissFault.TheVariants.{BadHeader, BadRow, Limit}
use Rattle.sis_base.specs.declared.limits.TheConstants.{MAX_MACHINE_ROWS, MAX_STATES}

-- a fault if a test holds
abbrev pub when : Bool → KissFault → Option KissFault
when test fault = if test then Some fault else None

-- the first cause that holds
unfoldable pub first_of : List (Option KissFault) → Option KissFault
first_of [] = None
first_of (None ∷ causes) = first_of causes
first_of (Some fault ∷ causes) = Some fault

-- whether an option has nothing
abbrev pub is_missing : {A : Type 0} → Option A → Bool
is_missing None = true
is_missing (Some item) = false

-- the first item of a list
abbrev pub first_item : {A : Type 0} → List A → Option A
first_item [] = None
first_item (item ∷ items) = Some item

-- names with one more, if it is new
unfoldable pub with_state : List (List ℕ) → List ℕ → List (List ℕ)
with_state states name = if has states name then states else states ++ name ∷ []

-- names followed by those of a list that are new, in order of first mention
unfoldable pub with_states : List (List ℕ) → List (List ℕ) → List (List ℕ)
with_states states [] = states
with_states states (name ∷ names) = with_states (with_state states name) names

-- the index of a name among states
abbrev pub place_of : List (List ℕ) → List ℕ → Option ℕ
place_of states name = position (bytes_eq name) states

-- the state of a word of a row; none for a word of every state
abbrev pub state_of : List (List ℕ) → List ℕ → Option ℕ
state_of states word = if is_any word then None else place_of states word

-- the row of four words
abbrev pub row_of : List (List ℕ) → List ℕ → List ℕ → List ℕ → List ℕ → MachineRow
row_of states input current next output = record {
  input = map character_of input;
  current = state_of states current;
  next = state_of states next;
  output = map character_of output;
}

-- the number of inputs that a statement gives
abbrev pub inputs_said : Said → Option ℕ
inputs_said (Inputs count) = Some count
inputs_said statement = None

-- the number of outputs that a statement gives
abbrev pub outputs_said : Said → Option ℕ
outputs_said (Outputs count) = Some count
outputs_said statement = None

-- the reset state that a statement gives
abbrev pub reset_said : Said → Option (List ℕ)
reset_said (Reset name) = Some name
reset_said statement = None

-- the states that rows name, in order of first mention
unfoldable pub states_in : List Said → List (List ℕ)
states_in [] = []
states_in (Row input current next output ∷ before) = with_states (states_in before) (named current next)
states_in (statement ∷ before) = states_in before

-- the rows in file order; each state is known by its index among those that are named so far
unfoldable pub rows_in : List Said → List MachineRow
rows_in [] = []
rows_in (Row input current next output ∷ before) = rows_in before ++ row_of (states_in (Row input current next output ∷ before)) input current next output ∷ []
rows_in (statement ∷ before) = rows_in before

-- what statements tell: the numbers of ports and the reset state, if they are given, the states and
-- the rows
unfoldable pub told : List Said → Draft
told before = record {
  inputs = first_item (filter_map inputs_said before);
  outputs = first_item (filter_map outputs_said before);
  reset = first_item (filter_map reset_said before);
  states = states_in before;
  rows = rows_in before;
}

-- the first name that is too long, by its length
abbrev pub long_fault : List (List ℕ) → Option KissFault
long_fault names = option_map (λ len. Limit limit.Name len) (long_name names)

-- whether a cube has as many characters as the header gave
abbrev pub is_wide : Option ℕ → List ℕ → Bool
is_wide None cube = false
is_wide (Some width) cube = length cube == width

-- a row comes while a number of ports is missing
abbrev pub ports_fault : Draft → ℕ → Option KissFault
ports_fault draft number = when (is_missing draft.inputs || is_missing draft.outputs) (BadHeader number)

-- what is wrong with a number of ports, where an earlier line may have given it
abbrev pub count_fault : Option ℕ → Draft → ℕ → Option KissFault
count_fault given draft number = when (not (is_missing given) || not (length draft.rows == 0)) (BadHeader number)

-- what is wrong with a line's statement after what was told, but for the limits on rows and states
unfoldable pub form_fault : Draft → ℕ → Said → Option KissFault
form_fault draft number (Inputs count) = count_fault draft.inputs draft number
form_fault draft number (Outputs count) = count_fault draft.outputs draft number
form_fault draft number (Reset name) = first_of (when (not (is_missing draft.reset)) (BadHeader number) ∷ long_fault (name ∷ []) ∷ [])
form_fault draft number (Row input current next output) = first_of
    (ports_fault draft number
    ∷ when (not (is_wide draft.inputs input && is_wide draft.outputs output)) (BadRow number)
    ∷ long_fault (current ∷ next ∷ [])
    ∷ [])
form_fault draft number Nothing = None
form_fault draft number NoRow = first_of (ports_fault draft number ∷ Some (BadRow number) ∷ [])
form_fault draft number NoHeader = Some (BadHeader number)

-- a limit that is exceeded
unfoldable pub limit_fault : Draft → Option KissFault
limit_fault draft = first_of
    (when (nat_lt MAX_MACHINE_ROWS (length draft.rows)) (Limit limit.Rows (MAX_MACHINE_ROWS + 1))
    ∷ when (nat_lt MAX_STATES (length draft.states)) (Limit limit.States (MAX_STATES + 1))
    ∷ [])

-- what is wrong with a line of a number and a statement, given the statements before it
unfoldable pub line_fault : List Said → ℕ → Said → Option KissFault
line_fault before number statement = option_or (form_fault (told before) number statement) (limit_fault (told (statement ∷ before)))

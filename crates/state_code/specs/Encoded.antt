-- The circuit of a machine whose states are coded in latches.
-- Source: De Micheli, "Synthesis and Optimization of Digital Circuits", chapter 9 (state encoding:
-- the state is held in registers, and next-state and output functions are logic over inputs and
-- state bits); SIS report (UCB/ERL M92/41), KISS2 tables and BLIF latches.
use Rattle.std.specs.Prelude.{ℕ, ◌+◌, Bool, true, false, Option, Some, None, List, [], ◌∷◌, ◌++◌, map, codes, slice_index_or}
use Rattle.std.specs.List.{filter, range_with_len}
use Rattle.std.specs.Option.{option_map_or}
use Rattle.circuit_model.specs.Runs.{tri_of}
use Rattle.circuit_model.specs.declared.circuit.Tri.{Tri}
use Rattle.circuit_model.specs.declared.circuit.Tri.TheVariants.{Zero, One, Free}
use Rattle.circuit_model.specs.declared.circuit.Table.{Table}
use Rattle.circuit_model.specs.declared.circuit.Latch.{Latch}
use Rattle.circuit_model.specs.declared.circuit.Circuit.{Circuit}
use Rattle.circuit_model.specs.declared.machine.Machine.{Machine}
use Rattle.circuit_model.specs.declared.machine.MachineRow.{MachineRow}
use Rattle.circuit_tables.specs.Tidy.{tidied}
use Rattle.state_code.specs.declared.codes.Style.{Style}
use Rattle.state_code.specs.declared.tables.Part.{Part}
use Rattle.state_code.specs.declared.tables.Part.TheVariants.{Next, Output}
use Rattle.state_code.specs.Codes.{code_bit, width_of}
use Rattle.state_code.specs.Naming.{free_names}

-- the names of the state bits, which latches drive, and those of the next-state bits, which latches
-- take
abbrev pub state_names : Style → Machine → List (List ℕ)
state_names style machine =
    free_names (codes "st_") (machine.inputs ++ machine.outputs) (width_of style machine)

abbrev pub next_names : Style → Machine → List (List ℕ)
next_names style machine =
    free_names (codes "nx_") (machine.inputs ++ machine.outputs) (width_of style machine)

-- the character of a row for a bit of its current state's code: a dash for every state
abbrev pub code_character : Style → Option ℕ → ℕ → Tri
code_character style None bit = Free
code_character style (Some state) bit = tri_of (code_bit style state bit)

-- the input of a machine's row, and the code of its current state in so many bits
abbrev pub coded_row : Style → ℕ → MachineRow → List Tri
coded_row style width row =
    row.input ++ map (code_character style row.current) (range_with_len 0 width)

abbrev pub is_one : Tri → Bool
is_one Zero = false
is_one One = true
is_one Free = false

-- whether a row specifies 1 for a bit of the next state's code, or for an output
abbrev pub specifies_one : Style → Part → ℕ → MachineRow → Bool
specifies_one style Next bit row = option_map_or (λ next. code_bit style next bit) row.next false
specifies_one style Output place row = is_one (slice_index_or row.output place Free)

-- the table of a bit of the next state's code, or of an output, in normal form: 1 where a row is
-- taken that specifies 1
unfoldable pub table_of : Style → Machine → Part → ℕ → List ℕ → Table
table_of style machine part place name = tidied (record {
  inputs = machine.inputs ++ state_names style machine;
  output = name;
  rows = map (coded_row style (width_of style machine))
      (filter (specifies_one style part place) machine.rows);
  phase = true;
})

-- a table for each name, from this index on
unfoldable pub tables_from : Style → Machine → Part → ℕ → List (List ℕ) → List Table
tables_from style machine part place [] = []
tables_from style machine part place (name ∷ names) =
    table_of style machine part place name ∷ tables_from style machine part (place + 1) names

-- the init of a latch that starts at a bit
abbrev pub init_of : Bool → ℕ
init_of true = 1
init_of false = 0

-- the latches of bits one after the other, with their inputs and outputs; they start at the code of
-- a state
unfoldable pub latches_from : Style → ℕ → ℕ → List (List ℕ) → List (List ℕ) → List Latch
latches_from style state bit [] outputs = []
latches_from style state bit (input ∷ inputs) [] = []
latches_from style state bit (input ∷ inputs) (output ∷ outputs) =
    record { input = input; output = output; init = init_of (code_bit style state bit) }
    ∷ latches_from style state (bit + 1) inputs outputs

-- the circuit: the machine's name and ports, a latch for each bit of the code, which starts at that
-- of the reset, and a table for each next-state bit and for each output
unfoldable pub encoded : Style → Machine → Circuit
encoded style machine = record {
  name = machine.name;
  inputs = machine.inputs;
  outputs = machine.outputs;
  clocks = [];
  timing = None;
  latches = latches_from style machine.reset 0 (next_names style machine)
      (state_names style machine);
  tables = tables_from style machine Next 0 (next_names style machine)
      ++ tables_from style machine Output 0 machine.outputs;
  dont_care = [];
}

-- The run of a machine: which rows are taken at a step, what they specify, and what the outputs
-- show. Source: SIS report (UCB/ERL M92/41), KISS2 tables; De Micheli, "Synthesis and Optimization
-- of Digital Circuits", chapter 9: an incompletely specified machine in a state takes the rows
-- whose cube and current state match, and what none of them specifies is open. Once the next state
-- is open, so is everything that follows.
use Rattle.std.specs.Prelude.{ℕ, Bool, true, ◌&&◌, ◌==◌, Option, Some, None, List, [], ◌∷◌, map, length, replicate}
use Rattle.std.specs.List.{filter}
use Rattle.std.specs.Option.{option_or}
use Rattle.sis_base.specs.Rows.{matches}
use Rattle.circuit_model.specs.Values.{literal_of}
use Rattle.circuit_model.specs.declared.circuit.Tri.{Tri}
use Rattle.circuit_model.specs.declared.circuit.Tri.TheVariants.{Zero, One, Free}
use Rattle.circuit_model.specs.declared.machine.Machine.{Machine}
use Rattle.circuit_model.specs.declared.machine.MachineRow.{MachineRow}

-- whether a row of this current state holds in a state; without one it holds in every state
abbrev pub holds_in : Option ℕ → ℕ → Bool
holds_in None state = true
holds_in (Some current) state = current == state

-- whether a row is taken in a state under an input row
unfoldable pub is_taken : ℕ → List Bool → MachineRow → Bool
is_taken state point row = holds_in row.current state && matches (map literal_of row.input) point

-- the rows that are taken in a state under an input row
unfoldable pub taken : Machine → ℕ → List Bool → List MachineRow
taken machine state point = filter (is_taken state point) machine.rows

-- the first of two characters that is 0 or 1, a dash if neither is
abbrev pub or_else : Tri → Tri → Tri
or_else Zero other = Zero
or_else One other = One
or_else Free other = other

-- the same for the characters of two lists, column by column
unfoldable pub over : List Tri → List Tri → List Tri
over [] others = []
over (first ∷ firsts) [] = []
over (first ∷ firsts) (other ∷ others) = or_else first other ∷ over firsts others

-- what rows specify for so many outputs, a dash if none of them specifies one
unfoldable pub specified : ℕ → List MachineRow → List Tri
specified width [] = replicate width Free
specified width (row ∷ rows) = over row.output (specified width rows)

-- the next state that one of the rows specifies
unfoldable pub next_by : List MachineRow → Option ℕ
next_by [] = None
next_by (row ∷ rows) = option_or row.next (next_by rows)

-- what the outputs show in a state under an input row
unfoldable pub outputs_from : Machine → ℕ → List Bool → List Tri
outputs_from machine state point = specified (length machine.outputs) (taken machine state point)

-- the state after a step, if it is specified
unfoldable pub next_from : Machine → ℕ → List Bool → Option ℕ
next_from machine state point = next_by (taken machine state point)

-- the outputs at each step over a list of input rows, from a state, or from none: then all is open
unfoldable pub run_from : Machine → Option ℕ → List (List Bool) → List (List Tri)
run_from machine state [] = []
run_from machine None (point ∷ points) = replicate (length machine.outputs) Free ∷ run_from machine None points
run_from machine (Some state) (point ∷ points) = outputs_from machine state point ∷ run_from machine (next_from machine state point) points

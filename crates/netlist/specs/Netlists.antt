-- The circuit that a netlist denotes, and when a netlist is sound. Source: the BLIF appendix of the
-- SIS report (UCB/ERL M92/41), `.gate`: an instance of a library gate, whose output is the gate's
-- function of the signals at its pins; its genlib format for the gates. That gates come before the
-- other tables, and that a signal at two pins is one input, are the project's own.
use Rattle.std.specs.Prelude.{◌≡◌, ℕ, true, Option, Some, List, [], ◌∷◌, ◌++◌, map, take, length, slice_index_or}
use Rattle.std.specs.List.{AllByRecursion, filter_map}
use Rattle.std.specs.Option.{option_map}
use Rattle.circuit_model.specs.Soundness.{IsSound}
use Rattle.circuit_model.specs.declared.circuit.Table.{Table}
use Rattle.circuit_model.specs.declared.circuit.Circuit.{Circuit}
use Rattle.circuit_tables.specs.Folding.{folded}
use Rattle.genlib_format.specs.Reader.{gate_named}
use Rattle.genlib_format.specs.declared.gate.Gate.{Gate}
use Rattle.blif_gates.specs.GateLines.{gate_rows}
use Rattle.netlist.specs.declared.mapped.Connection.{Connection}
use Rattle.netlist.specs.declared.mapped.Placed.{Placed}
use Rattle.netlist.specs.declared.mapped.Mapped.{Mapped}

-- the pins that a placed gate names, and the signals at them
abbrev pub pins_of : Placed → List (List ℕ)
pins_of placed = map (λ (connection : Connection). connection.pin) placed.pins

abbrev pub signals_of : Placed → List (List ℕ)
signals_of placed = map (λ (connection : Connection). connection.signal) placed.pins

-- a cell between signals: those at its pins, in order, are its inputs, and the next one is its
-- output
unfoldable pub cell_table : Gate → List (List ℕ) → Table
cell_table gate signals = record {
  inputs = take (length gate.pins) signals;
  output = slice_index_or signals (length gate.pins) [];
  rows = gate_rows gate;
  phase = true;
}

-- the table of a placed gate, each input once; none if the library has no such cell
unfoldable pub placed_table : List Gate → Placed → Option Table
placed_table library placed =
    option_map (λ gate. folded (cell_table gate (signals_of placed)))
    (gate_named library placed.cell)

-- the tables of placed gates, in order
unfoldable pub placed_tables : List Gate → List Placed → List Table
placed_tables library gates = filter_map (placed_table library) gates

-- the circuit of a netlist: all that is not a gate, with the tables of the gates before its own
unfoldable pub circuit_of : List Gate → Mapped → Circuit
circuit_of library mapped =
    record mapped.base { tables = placed_tables library mapped.gates ++ mapped.base.tables }

-- a gate is placed by a library: its cell exists, and what it names are the cell's pins in order,
-- and then the output
pub record IsPlaced (library : List Gate) (placed : Placed) : Type 0 where
  pub gate : Gate
  pub known : gate_named library placed.cell ≡ Some gate
  pub pins : pins_of placed ≡ gate.pins ++ gate.output ∷ []

-- a netlist is sound if its gates are placed by the library, and its circuit is sound
pub record IsSoundNetlist (library : List Gate) (mapped : Mapped) : Type 0 where
  pub gates : AllByRecursion (IsPlaced library) mapped.gates
  pub circuit : IsSound (circuit_of library mapped)

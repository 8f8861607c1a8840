-- The one BLIF text of a netlist. Source: the BLIF appendix of the SIS report (UCB/ERL M92/41),
-- `.gate`: the name of the cell is followed by a word `pin=signal` for each pin and for the output.
-- That the gates are between the latches and the tables, the pins in the order of the cell and the
-- output last, is the project's own; all else is as in the text of a circuit.
use Rattle.std.specs.Prelude.{ℕ, List, [], ◌∷◌, ◌++◌, map, flat_map, codes}
use Rattle.sis_base.specs.Written.{Written, lines_text}
use Rattle.circuit_model.specs.Text.{dotted, clock_lines, latch_line, table_lines, dont_care_lines}
use Rattle.circuit_model.specs.declared.circuit.Circuit.{Circuit}
use Rattle.netlist.specs.declared.mapped.Connection.{Connection}
use Rattle.netlist.specs.declared.mapped.Placed.{Placed}
use Rattle.netlist.specs.declared.mapped.Mapped.{Mapped}

-- a pin and its signal, as one word
abbrev pub pair_word : Connection → List ℕ
pair_word connection = connection.pin ++ codes "=" ++ connection.signal

-- a placed gate: its cell, and its pins with their signals
unfoldable pub gate_line : Placed → Written
gate_line placed = dotted (codes ".gate") (placed.cell ∷ map pair_word placed.pins)

-- all lines of a circuit, in order, with gates before its tables
unfoldable pub lines_with_gates : List Placed → Circuit → List Written
lines_with_gates gates circuit =
    dotted (codes ".model") (circuit.name ∷ []) ∷ dotted (codes ".inputs") circuit.inputs
    ∷ dotted (codes ".outputs") circuit.outputs ∷ clock_lines circuit.clocks
    ++ (map (latch_line circuit.timing) circuit.latches
    ++ (map gate_line gates ++ (flat_map table_lines circuit.tables
    ++ (dont_care_lines circuit.dont_care ++ dotted (codes ".end") [] ∷ []))))

-- all lines of a netlist, in order
abbrev pub netlist_lines : Mapped → List Written
netlist_lines mapped = lines_with_gates mapped.gates mapped.base

-- the text of a netlist
unfoldable pub netlist_text_of : Mapped → List ℕ
netlist_text_of mapped = lines_text (netlist_lines mapped)

-- What a library file is read as: its gates, or its first fault.
-- Source: the genlib format of SIS (UCB/ERL M92/41). Two gates of one name must be the same cell;
-- the order of the causes and the limits are the project's own.
use Rattle.std.specs.Prelude.{◌+◌, ℕ, suc, ◌==◌, ◌&&◌, Bool, not, nat_le, unwrap_or, Option, Some, None}
use Rattle.std.specs.Prelude.{Result, Ok, Err, List, [], ◌∷◌, ◌++◌, length, find, map, bytes_eq}
use Rattle.std.specs.Cmp.Lexicographic.{pointwise}
use Rattle.std.specs.Option.{option_map_or, option_or}
use Rattle.sis_text.specs.Decimals.{decimal_of}
use Rattle.sis_text.specs.declared.decimal.Decimal.{Decimal}
use Rattle.cover_ops.specs.Shannon.{same}
use Rattle.genlib_expr.specs.Formula.{formula_of}
use Rattle.genlib_expr.specs.Text.{pins_of}
use Rattle.genlib_expr.specs.Functions.{function_of}
use Rattle.genlib_format.specs.declared.gates.GateLines.{GateLines}
use Rattle.genlib_format.specs.declared.pins.PinLine.{PinLine}
use Rattle.genlib_format.specs.declared.entries.Entry.{Entry}
use Rattle.genlib_format.specs.declared.entries.Entry.TheVariants as entry
use Rattle.genlib_format.specs.declared.gate.Gate.{Gate}
use Rattle.genlib_format.specs.declared.gate.Block.{Block}
use Rattle.genlib_format.specs.declared.fault.LimitKind.TheVariants as limit
use Rattle.genlib_format.specs.declared.fault.LibFault.{LibFault}
use Rattle.genlib_format.specs.declared.fault.LibFault.TheVariants.{BadEntry, GateTwice, Limit}
use Rattle.genlib_format.specs.Words.{words_in}
use Rattle.genlib_format.specs.Entries.{entries_of}
use Rattle.genlib_format.specs.Faults.{when, first_of, star, is_named, lines_fault}
use Rattle.genlib_format.specs.Spelling.{nodes_in}
use Rattle.sis_base.specs.declared.limits.TheConstants.{MAX_GATES}

-- the number of a word; 0 if it is not one
unfoldable pub number_in : List ℕ → Decimal
number_in word = record { 0 = unwrap_or (decimal_of word) 0 }

-- the delays of a line
unfoldable pub block_in : PinLine → Block
block_in line = record { rise = number_in line.rise; fall = number_in line.fall }

-- the line of a pin: that of its name, otherwise the one for all others
unfoldable pub line_for : List PinLine → List ℕ → Option PinLine
line_for lines pin = option_or (find (is_named pin) lines) (find (is_named star) lines)

-- the delays of a pin
unfoldable pub block_for : List PinLine → List ℕ → Block
block_for lines pin =
    option_map_or block_in (line_for lines pin)
    (record { rise = record { 0 = 0 }; fall = record { 0 = 0 } })

-- the gate of an entry: its pins are the names of its expression, in order of first mention
unfoldable pub gate_of : GateLines → Gate
gate_of lines = record {
  cell = lines.cell;
  area = number_in lines.area;
  output = lines.output;
  pins = pins_of lines.text;
  expr = unwrap_or (nodes_in lines.text) [];
  blocks = map (block_for lines.pins) (pins_of lines.text);
}

-- the first gate of a name
unfoldable pub gate_named : List Gate → List ℕ → Option Gate
gate_named gates name = find (λ (gate : Gate). bytes_eq name gate.cell) gates

-- whether two gates have the same output, pins, area and function
unfoldable pub is_same_cell : Gate → Gate → Bool
is_same_cell gate other =
    bytes_eq gate.output other.output && pointwise bytes_eq gate.pins other.pins
    && gate.area.0 == other.area.0
    && same (length gate.pins)
    (function_of (formula_of gate.expr))
    (function_of (formula_of other.expr))

-- a gate with the delays of another
abbrev pub with_blocks : Gate → Gate → Gate
with_blocks gate other = record {
  cell = gate.cell;
  area = gate.area;
  output = gate.output;
  pins = gate.pins;
  expr = gate.expr;
  blocks = other.blocks;
}

-- another gate of the name of the first must be the same cell
abbrev pub twice_fault : Option Gate → Gate → Option LibFault
twice_fault None gate = None
twice_fault (Some first) gate = when (not (is_same_cell first gate)) (GateTwice gate.cell)

-- a later gate of a name has the delays of the first
abbrev pub settled : Option Gate → Gate → Gate
settled None gate = gate
settled (Some first) gate = with_blocks gate first

-- one more entry of a gate or latch than `MAX_GATES`
abbrev pub one_too_many : ℕ → Option LibFault
one_too_many count = when (nat_le MAX_GATES count) (Limit limit.Gates (MAX_GATES + 1))

-- what is wrong with an entry after so many entries, of which these gates were read
unfoldable pub entry_fault : ℕ → List Gate → Entry → Option LibFault
entry_fault count gates (entry.Misshapen line) = Some (BadEntry line)
entry_fault count gates entry.Latch = one_too_many count
entry_fault count gates (entry.Gate lines) = first_of
    (lines_fault lines
    ∷ twice_fault (gate_named gates lines.cell) (gate_of lines)
    ∷ one_too_many count
    ∷ [])

-- the gates after an entry
unfoldable pub gates_with : List Gate → Entry → List Gate
gates_with gates (entry.Misshapen line) = gates
gates_with gates entry.Latch = gates
gates_with gates (entry.Gate lines) =
    gates ++ settled (gate_named gates lines.cell) (gate_of lines) ∷ []

-- a fault, or what is read if there is none
abbrev pub unless : {A : Type 0} → Option LibFault → A → Result A LibFault
unless None value = Ok value
unless (Some fault) value = Err fault

-- a fault, or what is read after an entry without one
abbrev pub onward : Option LibFault → Result (List Gate) LibFault → Result (List Gate) LibFault
onward None rest = rest
onward (Some fault) rest = Err fault

-- what entries are read as after so many entries and these gates: the first fault, or all gates in
-- order
unfoldable pub read_entries : ℕ → List Gate → List Entry → Result (List Gate) LibFault
read_entries count gates [] = Ok gates
read_entries count gates (entry ∷ entries) =
    onward (entry_fault count gates entry)
    (read_entries (suc count) (gates_with gates entry) entries)

-- what the bytes of a file are read as
unfoldable pub library_of : List ℕ → Result (List Gate) LibFault
library_of bytes = read_entries 0 [] (entries_of (words_in bytes))

-- The words of a `.gate` line as a table. Source: the BLIF appendix of the SIS report (UCB/ERL
-- M92/41), `.gate`: the name of a library gate is followed by one word `pin=signal` for each of its
-- pins and for its output, in any order; its genlib format: a gate's output is a function of its
-- pins. The rows are those of Shannon's expansion over the pins in order; that is the project's
-- own.
use Rattle.std.specs.Prelude.{ℕ, ◌+◌, ◌==◌, ◌&&◌, Bool, true, false, not, if◌then◌else◌, Option, Some, None, Result, Ok, Err, List, [], length, find, map, bytes_eq}
use Rattle.std.specs.List.{list_all}
use Rattle.std.specs.Option.{option_map_or}
use Rattle.sis_base.specs.Written.{is_empty}
use Rattle.circuit_model.specs.Names.{has}
use Rattle.circuit_model.specs.declared.circuit.Tri.{Tri}
use Rattle.circuit_model.specs.declared.circuit.Tri.TheVariants.{Zero, One, Free}
use Rattle.circuit_model.specs.declared.circuit.Table.{Table}
use Rattle.cover_ops.specs.Shannon.{shannon}
use Rattle.genlib_expr.specs.Formula.{formula_of}
use Rattle.genlib_expr.specs.Functions.{function_of}
use Rattle.genlib_format.specs.declared.gate.Gate.{Gate}
use Rattle.genlib_format.specs.Words.{before, behind}
use Rattle.genlib_format.specs.Reader.{gate_named}
use Rattle.blif_gates.specs.declared.reading.GateFault.{GateFault}
use Rattle.blif_gates.specs.declared.reading.GateFault.TheVariants.{UnknownGate, BadPins}

-- the bytes before the first `=` of a word, and those after it; there are none after it if there is
-- no `=`
abbrev pub pin_in : List ℕ → List ℕ
pin_in word = before 61 word

abbrev pub signal_in : List ℕ → List ℕ
signal_in word = behind 61 word

-- whether a word is a pair of a pin and a signal: something follows its first `=`
abbrev pub is_pair : List ℕ → Bool
is_pair word = not (is_empty (signal_in word))

-- the pins that words name, and the signals that they mention, in the order of the line
abbrev pub pins_of : List (List ℕ) → List (List ℕ)
pins_of words = map pin_in words

abbrev pub signals_of : List (List ℕ) → List (List ℕ)
signals_of words = map signal_in words

-- whether words are pairs that name each pin and the output once: as many pairs as there are pins
-- and the output, and one for each of these names, which are different if the gate is sound
unfoldable pub is_pairing : Gate → List (List ℕ) → Bool
is_pairing gate words =
    length words == length gate.pins + 1 && (list_all is_pair words && (list_all (has (pins_of words)) gate.pins && has (pins_of words) gate.output))

-- the signal of the first pair that names a pin; the empty one if none does
unfoldable pub signal_for : List (List ℕ) → List ℕ → List ℕ
signal_for words pin = option_map_or signal_in (find (λ word. bytes_eq pin (pin_in word)) words) []

-- the cube character of a literal
abbrev pub character_for : Option Bool → Tri
character_for None = Free
character_for (Some false) = Zero
character_for (Some true) = One

-- the rows of a gate's function over its pins in order
unfoldable pub gate_rows : Gate → List (List Tri)
gate_rows gate = map (map character_for) (shannon (length gate.pins) (function_of (formula_of gate.expr)))

-- the table of a gate between the signals of pairs: its inputs are the signals of the pins in order
unfoldable pub gate_table : Gate → List (List ℕ) → Table
gate_table gate words = record {
  inputs = map (signal_for words) gate.pins;
  output = signal_for words gate.output;
  rows = gate_rows gate;
  phase = true;
}

-- the table of a gate and the words after its cell
abbrev pub read_pairs : Gate → List (List ℕ) → Result Table GateFault
read_pairs gate words = if is_pairing gate words then Ok (gate_table gate words) else Err BadPins

-- the same for a gate that was looked up
abbrev pub read_found : Option Gate → List (List ℕ) → Result Table GateFault
read_found None words = Err UnknownGate
read_found (Some gate) words = read_pairs gate words

-- the table of the cell of a line and the words after it, or what is wrong with them; of two gates
-- of one name the first counts
unfoldable pub read_gate : List Gate → List ℕ → List (List ℕ) → Result Table GateFault
read_gate library cell words = read_found (gate_named library cell) words

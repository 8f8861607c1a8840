-- The two sides of a model: its inputs and the signals that lines read, its outputs and the signals
-- that lines drive. Only clauses of this crate's own functions cite this module.
use Rattle.std.specs.Prelude.{ℕ, Bool, Option, List, [], ◌∷◌}
use Rattle.std.specs.List.{filter}
use Rattle.circuit_model.specs.Names.{has}
use Rattle.circuit_model.specs.declared.circuit.Table.{Table}
use Rattle.sis_text.specs.Entries.{Entry}
use Rattle.line_words.specs.LineWords.{first_word, other_words}
use Rattle.genlib_format.specs.declared.gate.Gate.{Gate}
use Rattle.blif_gates.specs.GateLines.{is_pair, signals_of}
use Rattle.blif_lines.specs.declared.keyword.Keyword.{Keyword}
use Rattle.blif_lines.specs.declared.keyword.Keyword.TheVariants.{Subckt}
use Rattle.blif_lines.specs.Reader.{listed_inputs, listed_outputs, lists_inputs, lists_outputs, driven_by, read_within, is_inputs_kind, is_outputs_kind}
use Rattle.blif_models.specs.Ports.{Ports, own_outputs, actuals_of, reads_with, drives_with}
use Rattle.blif_models.specs.declared.side.Side.{Side}
use Rattle.blif_models.specs.declared.side.Side.TheVariants as side

abbrev pub other_side : Side → Side
other_side side.Inputs = side.Outputs
other_side side.Outputs = side.Inputs

-- the ports of a side
abbrev pub ports_on : Side → Ports → List (List ℕ)
ports_on side.Inputs ports = ports.inputs
ports_on side.Outputs ports = ports.outputs

-- the formals whose actuals an instance reads, or drives
abbrev pub formals_on : Side → Ports → List (List ℕ)
formals_on side.Inputs ports = ports.inputs
formals_on side.Outputs ports = own_outputs ports

-- the signals that the table of a gate reads, in the order of the pairs, or the one that it drives
abbrev pub gate_signals : Side → Table → List (List ℕ) → List (List ℕ)
gate_signals side.Inputs table words = filter (has table.inputs) (signals_of words)
gate_signals side.Outputs table words = table.output ∷ []

-- the signals that a table, a latch or a gate reads, or drives
abbrev pub signals_within : Side → Option (List Gate) → Keyword → List (List ℕ) → List (List ℕ)
signals_within side.Inputs library kind words = read_within library kind words
signals_within side.Outputs library kind words = driven_by library kind words

-- the same of a line, by its kind; `ports_of` are the ports of each model
abbrev pub signals_as : Side → Option (List Gate) → (List ℕ → Ports) → Keyword → List (List ℕ) → List (List ℕ)
signals_as place library ports_of Subckt words = actuals_of (formals_on place (ports_of (first_word words))) (filter is_pair (other_words words))
signals_as place library ports_of kind words = signals_within place library kind words

-- the signals that a line reads, or drives
abbrev pub signals_with : Side → Option (List Gate) → (List ℕ → Ports) → Entry → List (List ℕ)
signals_with side.Inputs library ports_of line = reads_with library ports_of line
signals_with side.Outputs library ports_of line = drives_with library ports_of line

-- the ports of a side that a line lists, and whether lines list some
abbrev pub listed_on : Side → Keyword → List (List ℕ) → List (List ℕ)
listed_on side.Inputs kind words = listed_inputs kind words
listed_on side.Outputs kind words = listed_outputs kind words

abbrev pub is_kind_on : Side → Keyword → Bool
is_kind_on side.Inputs kind = is_inputs_kind kind
is_kind_on side.Outputs kind = is_outputs_kind kind

abbrev pub lists_on : Side → List Entry → Bool
lists_on side.Inputs lines = lists_inputs lines
lists_on side.Outputs lines = lists_outputs lines

-- The one BLIF text of a circuit. Source: BLIF appendix of the SIS report (UCB/ERL M92/41). Each
-- line is words separated by one blank; no line is wrapped. The order: model, ports (always both
-- lines), clocks if there are any, latches, tables with their rows, the don't-care part if there is
-- one, end.
use Rattle.std.specs.Prelude.{ℕ, zero, suc, Bool, true, false, Option, Some, None, List, [], ◌∷◌, ◌++◌, map, flat_map, codes}
use Rattle.sis_base.specs.Written.{Written, lines_text}
use Rattle.circuit_model.specs.declared.circuit.Tri.{Tri}
use Rattle.circuit_model.specs.declared.circuit.Tri.TheVariants.{Zero, One, Free}
use Rattle.circuit_model.specs.declared.circuit.Kind.{Kind}
use Rattle.circuit_model.specs.declared.circuit.Kind.TheVariants.{Fe, Re, Ah, Al}
use Rattle.circuit_model.specs.declared.circuit.Table.{Table}
use Rattle.circuit_model.specs.declared.circuit.Latch.{Latch}
use Rattle.circuit_model.specs.declared.circuit.Timing.{Timing}
use Rattle.circuit_model.specs.declared.circuit.Circuit.{Circuit}

-- a line that begins with a dotted word
abbrev pub dotted : List ℕ → List (List ℕ) → Written
dotted word others = record { first = word; others = others }

-- a character of a row: `0`, `1` or `-`
abbrev pub character : Tri → ℕ
character Zero = 48
character One = 49
character Free = 45

-- a phase by its digit, with which each row ends
abbrev pub digit_of_phase : Bool → List ℕ
digit_of_phase true = codes "1"
digit_of_phase false = codes "0"

-- a row: its characters and the phase, or the phase alone if there are no inputs
unfoldable pub row_line : Bool → List Tri → Written
row_line phase [] = record { first = digit_of_phase phase; others = [] }
row_line phase (place ∷ places) = record { first = map character (place ∷ places); others = digit_of_phase phase ∷ [] }

-- a table: its inputs followed by its output, and a line for each row
unfoldable pub table_lines : Table → List Written
table_lines table = dotted (codes ".names") (table.inputs ++ table.output ∷ []) ∷ map (row_line table.phase) table.rows

-- the word of an edge or a level of the clock
abbrev pub kind_word : Kind → List ℕ
kind_word Fe = codes "fe"
kind_word Re = codes "re"
kind_word Ah = codes "ah"
kind_word Al = codes "al"

-- the control of the clock; `NIL` if there is none
abbrev pub control_word : Option (List ℕ) → List ℕ
control_word None = codes "NIL"
control_word (Some control) = control

-- the words of a latch's line between its signals and its init, if there is timing
unfoldable pub timing_words : Option Timing → List (List ℕ)
timing_words None = []
timing_words (Some timing) = kind_word timing.kind ∷ control_word timing.control ∷ []

-- an init by its digit, 0 to 3; a sound circuit has no other
abbrev pub init_word : ℕ → List ℕ
init_word zero = codes "0"
init_word (suc zero) = codes "1"
init_word (suc (suc zero)) = codes "2"
init_word init = codes "3"

-- a latch: its input, its output, its timing and its init
unfoldable pub latch_line : Option Timing → Latch → Written
latch_line timing latch =
    dotted (codes ".latch") (latch.input ∷ latch.output ∷ timing_words timing ++ init_word latch.init ∷ [])

-- the line of the clocks, if there are any
unfoldable pub clock_lines : List (List ℕ) → List Written
clock_lines [] = []
clock_lines (name ∷ names) = dotted (codes ".clock") (name ∷ names) ∷ []

-- the don't-care part, if it has tables: its own line and those of its tables
unfoldable pub dont_care_lines : List Table → List Written
dont_care_lines [] = []
dont_care_lines (table ∷ tables) = dotted (codes ".exdc") [] ∷ flat_map table_lines (table ∷ tables)

-- all lines of a circuit, in order
unfoldable pub circuit_lines : Circuit → List Written
circuit_lines circuit =
    dotted (codes ".model") (circuit.name ∷ []) ∷ dotted (codes ".inputs") circuit.inputs ∷ dotted (codes ".outputs") circuit.outputs
    ∷ clock_lines circuit.clocks ++ (map (latch_line circuit.timing) circuit.latches ++ (flat_map table_lines circuit.tables
    ++ (dont_care_lines circuit.dont_care ++ dotted (codes ".end") [] ∷ [])))

-- the text of a circuit
unfoldable pub text_of : Circuit → List ℕ
text_of circuit = lines_text (circuit_lines circuit)

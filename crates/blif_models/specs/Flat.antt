-- A model with each instance replaced by the lines of its model. Source: BLIF appendix of the SIS
-- report (UCB/ERL M92/41), `.subckt`: the model's body stands for the line, its formals are the
-- actuals. The names of other signals, the controls of latches and the clocks are the project's
-- own: the instance of the line with so many `.subckt` lines before it, say 2, of model `m` has the
-- path word `m[2]`, and its signal `s` becomes `m[2].s`. Models within are put in first.
use Rattle.std.specs.Prelude.{ℕ, zero, suc, ◌+◌, ◌==◌, Bool, true, false, not, ◌||◌, Option, List, [], ◌∷◌, ◌++◌, map, flat_map, take, drop, bytes_eq, codes, decimal, if◌then◌else◌}
use Rattle.std.specs.List.{filter}
use Rattle.circuit_model.specs.Names.{has}
use Rattle.sis_text.specs.Entries.{Entry}
use Rattle.line_words.specs.LineWords.{first_word, other_words}
use Rattle.genlib_format.specs.declared.gate.Gate.{Gate as TheGate}
use Rattle.blif_gates.specs.GateLines.{pin_in, signal_in, pins_of, signal_for}
use Rattle.blif_lines.specs.declared.keyword.Keyword.{Keyword}
use Rattle.blif_lines.specs.declared.keyword.Keyword.TheVariants.{Names, Latch, Gate, Row, StartKiss, End}
use Rattle.blif_lines.specs.Keyword.{kind_of}
use Rattle.blif_lines.specs.Reader.{model_lines, part_lines, drives_in, lists_inputs, lists_outputs, clocks_in, names_beside}
use Rattle.blif_models.specs.Models.{is_instance, model_of, pairs_of, body_of, size_of, used_models}
use Rattle.blif_models.specs.Ports.{ports_at, ports_of}
use Rattle.blif_models.specs.declared.limits.TheConstants.{MAX_DEPTH}

-- an instance as its lines are put in: its path word, its pairs, and the signals after which a
-- control is named, which are the inputs of its model and those that are driven in it
pub record Instance : Type 0 where
  pub path : List ℕ
  pub pairs : List (List ℕ)
  pub controls : List (List ℕ)

-- the path word of an instance of a model, after so many instances
abbrev pub path_word : List ℕ → ℕ → List ℕ
path_word name place = name ++ codes "[" ++ decimal place ++ codes "]"

-- whether a signal of an instance is a formal of it
abbrev pub is_formal : Instance → List ℕ → Bool
is_formal instance signal = has (pins_of instance.pairs) signal

-- what a signal of an instance is named outside: the actual of a formal, otherwise a path
unfoldable pub outside : Instance → List ℕ → List ℕ
outside instance signal =
    if is_formal instance signal then signal_for instance.pairs signal else instance.path ++ codes "." ++ signal

-- what a control is named outside: as a signal if it is an input of the instance or is driven in
-- it; any other one stays, and so does `NIL`, which is none. A control that stays is one of the
-- model around it, and is named by the same rule where that is put in
unfoldable pub control_outside : Instance → List ℕ → List ℕ
control_outside instance control =
    if bytes_eq control (codes "NIL") || not (has instance.controls control) then control
    else outside instance control

-- the words of a latch outside: its signals and, if it has one, its control
abbrev pub latch_outside : Instance → List (List ℕ) → List (List ℕ)
latch_outside instance (input ∷ output ∷ kind ∷ control ∷ words) =
    outside instance input ∷ outside instance output ∷ kind ∷ control_outside instance control ∷ words
latch_outside instance words = map (outside instance) (take 2 words) ++ drop 2 words

-- the pair of a gate outside
abbrev pub pair_outside : Instance → List ℕ → List ℕ
pair_outside instance pair = pin_in pair ++ codes "=" ++ outside instance (signal_in pair)

-- the words of a gate outside: its cell stays
abbrev pub gate_outside : Instance → List (List ℕ) → List (List ℕ)
gate_outside instance [] = []
gate_outside instance (cell ∷ pairs) = cell ∷ map (pair_outside instance) pairs

-- a line with other words after its first
abbrev pub with_words : Entry → List (List ℕ) → Entry
with_words line words = record line { words = first_word line.words ∷ words }

-- a line of an instance outside: that of a table, a latch or a gate, or a row; any other line is
-- left out
abbrev pub line_outside : Instance → Keyword → Entry → List Entry
line_outside instance Names line = with_words line (map (outside instance) (other_words line.words)) ∷ []
line_outside instance Latch line = with_words line (latch_outside instance (other_words line.words)) ∷ []
line_outside instance Gate line = with_words line (gate_outside instance (other_words line.words)) ∷ []
line_outside instance Row line = line ∷ []
line_outside instance kind line = []

-- the lines of an instance outside, in place of its line
unfoldable pub lines_outside : Instance → List Entry → List Entry
lines_outside instance lines = flat_map (λ line. line_outside instance (kind_of line) line) lines

-- each line with the number of instances before it
unfoldable pub numbered : ℕ → List Entry → List (ℕ × Entry)
numbered place [] = []
numbered place (line ∷ lines) = (place, line) ∷ numbered (if is_instance line then place + 1 else place) lines

-- the instance of a line with so many instances before it, by its model's lines as they are put in
abbrev pub instance_of : Option (List TheGate) → List (List Entry) → ℕ → Entry → List Entry → Instance
instance_of library models place line lines = record {
  path = path_word (model_of line) place;
  pairs = pairs_of line;
  controls = (ports_of library models (model_of line)).inputs ++ drives_in library lines;
}

-- what each instance among lines adds, in order, by its number, its line and the lines of its
-- model; none if the model has no table, latch or gate. Any other line adds what `other` says
unfoldable pub from_instances : {A : Type 0} → List (List Entry) → (ℕ → Entry → List Entry → List A) → (Entry → List A) → List Entry → List A
from_instances models put other lines = flat_map
    (λ (item : ℕ × Entry). if not (is_instance item.1) then other item.1
    else (if size_of models (model_of item.1) == 0 then [] else put item.0 item.1 (body_of models (model_of item.1))))
    (numbered 0 lines)

-- the lines of a model with those of its instances in their places, where models nest less deep
-- than the given number
unfoldable pub flat_lines : Option (List TheGate) → List (List Entry) → ℕ → List Entry → List Entry
flat_lines library models zero lines = []
flat_lines library models (suc depth) lines = from_instances models
    (λ place line body. let inner = flat_lines library models depth body in
    lines_outside (instance_of library models place line inner) inner)
    (λ line. line ∷ []) lines

-- whether a line of the first model stays: one that ends it, or that begins a KISS2 part, does not
abbrev pub stays : Keyword → Bool
stays End = false
stays StartKiss = false
stays kind = true

-- a line of some words that the file does not have
abbrev pub added : List (List ℕ) → Entry
added words = record { number = 0; words = words }

-- the lines of ports that the first model does not list, and the clocks of the models that are used
abbrev pub port_lines : Option (List TheGate) → List (List Entry) → List Entry → List Entry
port_lines library models lines =
    let ports = ports_at library models (MAX_DEPTH + 1) lines in
    (if lists_inputs lines then [] else added (codes ".inputs" ∷ ports.inputs) ∷ [])
    ++ (if lists_outputs lines then [] else added (codes ".outputs" ∷ ports.outputs) ∷ [])

abbrev pub clock_line : List (List Entry) → List Entry → Entry
clock_line models lines = added (codes ".clock" ∷ names_beside (clocks_in lines) (flat_map (λ model. clocks_in (model_lines model)) (used_models models)))

-- the first model as one without instances, with its don't-care part as it is
unfoldable pub flat_model : Option (List TheGate) → List (List Entry) → List Entry → List Entry
flat_model library models model =
    filter (λ line. stays (kind_of line)) (flat_lines library models (MAX_DEPTH + 1) (model_lines model))
    ++ port_lines library models (model_lines model) ++ clock_line models (model_lines model) ∷ part_lines model

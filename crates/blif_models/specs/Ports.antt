-- The ports of a model. Source: BLIF appendix of the SIS report (UCB/ERL M92/41): `.inputs` and
-- `.outputs` list them. Without such a line they are found: an input is read and not driven, an
-- output is driven and not read. An instance reads the actuals of its inputs and drives those of
-- its outputs; that is the project's own.
use Rattle.std.specs.Prelude.{ℕ, zero, suc, ◌+◌, Bool, not, ◌&&◌, Option, List, [], ◌++◌, flat_map, if◌then◌else◌}
use Rattle.std.specs.List.{filter, list_all}
use Rattle.circuit_model.specs.Names.{has, all_different}
use Rattle.sis_text.specs.Entries.{Entry}
use Rattle.line_words.specs.LineWords.{other_words}
use Rattle.genlib_format.specs.declared.gate.Gate.{Gate}
use Rattle.blif_gates.specs.GateLines.{is_pair, pin_in, pins_of, signals_of}
use Rattle.blif_lines.specs.Keyword.{kind_of}
use Rattle.blif_lines.specs.Reader.{of_lines, listed_inputs, listed_outputs, lists_inputs, lists_outputs, driven_by, read_within, names_beside, listed_or}
use Rattle.blif_models.specs.Models.{is_instance, model_of, pairs_of, body_of}
pub use Rattle.blif_models.specs.declared.ports.Ports.{Ports}
use Rattle.blif_models.specs.declared.limits.TheConstants.{MAX_DEPTH}

-- the outputs of an instance: a port that is listed as both is an input
abbrev pub own_outputs : Ports → List (List ℕ)
own_outputs ports = filter (λ name. not (has ports.inputs name)) ports.outputs

-- the actuals of the pairs whose formals are among some ports
unfoldable pub actuals_of : List (List ℕ) → List (List ℕ) → List (List ℕ)
actuals_of ports pairs = signals_of (filter (λ pair. has ports (pin_in pair)) pairs)

-- the signals that a line reads, and those that it drives; `ports_of` are the ports of each model
abbrev pub reads_with : Option (List Gate) → (List ℕ → Ports) → Entry → List (List ℕ)
reads_with library ports_of line =
    if is_instance line then actuals_of (ports_of (model_of line)).inputs (pairs_of line)
    else read_within library (kind_of line) (other_words line.words)

abbrev pub drives_with : Option (List Gate) → (List ℕ → Ports) → Entry → List (List ℕ)
drives_with library ports_of line =
    if is_instance line then actuals_of (own_outputs (ports_of (model_of line))) (pairs_of line)
    else driven_by library (kind_of line) (other_words line.words)

-- the ports of the lines of a model, by those of each other model
unfoldable pub ports_with : Option (List Gate) → (List ℕ → Ports) → List Entry → Ports
ports_with library ports_of lines = record {
  inputs = listed_or (lists_inputs lines) (of_lines listed_inputs lines)
      (names_beside (flat_map (drives_with library ports_of) lines)
      (flat_map (reads_with library ports_of) lines));
  outputs = listed_or (lists_outputs lines) (of_lines listed_outputs lines)
      (names_beside (flat_map (reads_with library ports_of) lines)
      (flat_map (drives_with library ports_of) lines));
}

-- the ports of the lines of a model in which models nest less deep than the given number
unfoldable pub ports_at : Option (List Gate) → List (List Entry) → ℕ → List Entry → Ports
ports_at library models zero lines = record { inputs = []; outputs = [] }
ports_at library models (suc depth) lines = ports_with library (λ name. ports_at library models depth (body_of models name)) lines

-- the ports of the model of a name
abbrev pub ports_of : Option (List Gate) → List (List Entry) → List ℕ → Ports
ports_of library models name = ports_at library models (MAX_DEPTH + 1) (body_of models name)

-- whether the words after the name of an instance's model name its ports: each is a pair, each
-- formal is a port and occurs once, and each input is among them
unfoldable pub names_ports : Ports → List (List ℕ) → Bool
names_ports ports words =
    list_all is_pair words && list_all (has (ports.inputs ++ ports.outputs)) (pins_of words)
    && all_different (pins_of words) && list_all (has (pins_of words)) ports.inputs

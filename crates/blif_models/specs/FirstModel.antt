-- What is added to the lines of the first model. Only clauses of this crate's own functions cite
-- this module.
use Rattle.std.specs.Prelude.{◌≡◌, ℕ, ◌+◌, ◌-◌, Bool, Option, List, codes, [], ◌∷◌, flat_map, map, length, slice_index_or, if◌then◌else◌}
use Rattle.std.specs.List.{filter, range_with_len}
use Rattle.sis_text.specs.Entries.{Entry}
use Rattle.genlib_format.specs.declared.gate.Gate.{Gate as TheGate}
use Rattle.blif_lines.specs.Reader.{model_lines, clocks_in}
use Rattle.blif_models.specs.Models.{model_graph, is_used}
use Rattle.blif_models.specs.Ports.{ports_at}
use Rattle.blif_models.specs.Flat.{added}
use Rattle.blif_models.specs.Sides.{ports_on, lists_on}
use Rattle.blif_models.specs.declared.side.Side.{Side}
use Rattle.blif_models.specs.declared.side.Side.TheVariants as side
use Rattle.blif_models.specs.declared.limits.TheConstants.{MAX_DEPTH}

-- which of the models are used
abbrev pub MarksUsed : List (List Entry) → List Bool → Type 0
MarksUsed models used = used ≡ map (is_used (model_graph models)) (range_with_len 0 (length models))

-- the clocks of a model, if it is used
abbrev pub clocks_at : List (List Entry) → ℕ → List (List ℕ)
clocks_at models place = if is_used (model_graph models) place then clocks_in (model_lines (slice_index_or models place [])) else []

-- the clocks of the models that are used, from an index on
unfoldable pub clocks_from : List (List Entry) → ℕ → List (List ℕ)
clocks_from models place =
    flat_map (λ (model : List Entry). clocks_in (model_lines model))
    (map (λ one. slice_index_or models one []) (filter (is_used (model_graph models)) (range_with_len place (length models - place))))

-- a line of ports that is added, unless such a line is there
abbrev pub port_line : Bool → List ℕ → List (List ℕ) → List Entry
port_line listed word names = if listed then [] else added (word ∷ names) ∷ []

-- the word that begins a line of the ports of a side
abbrev pub port_word : Side → List ℕ
port_word side.Inputs = codes ".inputs"
port_word side.Outputs = codes ".outputs"

-- the line of the ports of a side of some lines
abbrev pub side_line : Side → Option (List TheGate) → List (List Entry) → List Entry → List Entry
side_line place library models lines = port_line (lists_on place lines) (port_word place) (ports_on place (ports_at library models (MAX_DEPTH + 1) lines))

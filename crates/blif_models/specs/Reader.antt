-- What the logical lines of a file of models are read as: the first fault, or what its first model
-- describes with its instances in their places. Source: BLIF appendix of the SIS report (UCB/ERL
-- M92/41). The order of the causes is the project's own: faults of lines in file order; then a
-- model that is missing, one that is in itself, instances that nest too deep, ports listed twice or
-- wrongly paired, too many tables, names that are too long or clash; last what is wrong with the
-- whole as one model.
use Rattle.std.specs.Prelude.{ℕ, ◌+◌, not, nat_lt, Option, None, Result, List, [], ◌∷◌, ◌++◌, map, find, flat_map, slice_index_or, if◌then◌else◌}
use Rattle.std.specs.Option.{option_map, option_or}
use Rattle.circuit_model.specs.Names.{has}
use Rattle.sis_text.specs.Entries.{Entry}
use Rattle.line_words.specs.LineWords.{other_words}
use Rattle.circuit_checks.specs.Graphs.{first_cyclic}
use Rattle.circuit_checks.specs.NameChecks.{first_listed_twice}
use Rattle.genlib_format.specs.declared.gate.Gate.{Gate}
use Rattle.blif_lines.specs.declared.keyword.Keyword.{Keyword}
use Rattle.blif_lines.specs.declared.keyword.Keyword.TheVariants.{Model, StartKiss}
use Rattle.blif_lines.specs.declared.content.Content.{Content}
use Rattle.blif_lines.specs.declared.fault.LimitKind.TheVariants as limit
use Rattle.blif_lines.specs.declared.fault.BlifFault.{BlifFault}
use Rattle.blif_lines.specs.declared.fault.BlifFault.TheVariants.{UnknownWord, ModelTwice, UnknownModel, BadPorts, Recursion, NameTwice, NameClash, Limit}
use Rattle.blif_lines.specs.Keyword.{kind_of}
use Rattle.blif_lines.specs.Lines.{when, first_of, is_none, long_fault, nodes_in, line_fault}
use Rattle.blif_lines.specs.Reader.{model_lines, part_lines, has_instances, model_name, of_lines, listed_inputs, listed_outputs, ports_in, first_fault, read_lines}
use Rattle.blif_models.specs.Models.{models_of, instances_in, model_of, model_graph, used_graph, used_models, nodes_at, nests}
use Rattle.blif_models.specs.Ports.{ports_of, names_ports}
use Rattle.blif_models.specs.Flat.{flat_model}
use Rattle.blif_models.specs.Made.{names_in, made_in, first_clash}
use Rattle.blif_models.specs.declared.limits.TheConstants.{MAX_DEPTH}
use Rattle.sis_base.specs.declared.limits.TheConstants.{MAX_NODES}

-- what is wrong with a line of a model besides, by the names of earlier models: the model's name is
-- one of them; or the line begins a KISS2 part, and the model is not the first
abbrev pub later_fault : List (List ℕ) → Keyword → Entry → Option BlifFault
later_fault earlier Model line = when (has earlier (model_name (line ∷ []))) (ModelTwice line.number)
later_fault earlier StartKiss line = when (not (is_none earlier)) (UnknownWord line.number)
later_fault earlier kind line = None

-- the first fault of a line of a model, by the names of earlier models and the lines before
unfoldable pub lines_fault : Option (List Gate) → List (List ℕ) → List Entry → List Entry → Option BlifFault
lines_fault library earlier back [] = None
lines_fault library earlier back (line ∷ lines) = first_of
    (line_fault library back line ∷ later_fault earlier (kind_of line) line ∷ lines_fault library earlier (line ∷ back) lines ∷ [])

-- the first fault of a line of the models of a file, in file order
unfoldable pub file_fault : Option (List Gate) → List (List ℕ) → List (List Entry) → Option BlifFault
file_fault library earlier [] = None
file_fault library earlier (model ∷ models) =
    option_or (lines_fault library earlier [] model) (file_fault library (earlier ++ model_name model ∷ []) models)

-- the line of the first instance whose model is not in the file
unfoldable pub unknown_model : List (List Entry) → Option BlifFault
unknown_model models = option_map (λ (line : Entry). UnknownModel line.number)
    (find (λ line. not (has (map model_name models) (model_of line))) (flat_map instances_in models))

-- the first model, among those that are used, that is in itself
unfoldable pub recursion : List (List Entry) → Option BlifFault
recursion models = option_map (λ place. Recursion (model_name (slice_index_or models place []))) (first_cyclic (used_graph (model_graph models)))

-- models that nest deeper than `MAX_DEPTH`
unfoldable pub depth_fault : List (List Entry) → Option BlifFault
depth_fault models = when (nests (model_graph models) (MAX_DEPTH + 1) 0) (Limit limit.Depth (MAX_DEPTH + 1))

-- the first port that a model lists twice, in a model that is used
unfoldable pub twice_fault : List (List Entry) → Option BlifFault
twice_fault models = first_of (map
    (λ model. option_map (λ name. NameTwice name)
    (first_listed_twice (of_lines listed_inputs (model_lines model)) (of_lines listed_outputs (model_lines model)) (ports_in (model_lines model))))
    (used_models models))

-- the line of the first instance, in a model that is used, whose pairs do not name its ports
unfoldable pub ports_fault : Option (List Gate) → List (List Entry) → Option BlifFault
ports_fault library models = option_map (λ (line : Entry). BadPorts line.number)
    (find (λ line. not (names_ports (ports_of library models (model_of line)) (other_words (other_words line.words))))
    (flat_map instances_in (used_models models)))

-- the names made by the instances of the first model
abbrev pub made_names : Option (List Gate) → List (List Entry) → List Entry → List (List ℕ)
made_names library models model = made_in library models (MAX_DEPTH + 1) (model_lines model)

-- what is wrong with the models that are used and with how the first is made of them
unfoldable pub models_fault : Option (List Gate) → List (List Entry) → List Entry → Option BlifFault
models_fault library models model = first_of
    (recursion models ∷ depth_fault models ∷ twice_fault models ∷ ports_fault library models
    ∷ when (nat_lt MAX_NODES (nodes_at models (MAX_DEPTH + 1) (model_lines model) + nodes_in (part_lines model))) (Limit limit.Tables (MAX_NODES + 1))
    ∷ long_fault (made_names library models model)
    ∷ option_map (λ name. NameClash name) (first_clash (names_in model) (made_names library models model))
    ∷ [])

-- what the first model is read as: by itself if it has no instance, otherwise with each in its
-- place
unfoldable pub read_first : Option (List Gate) → List (List Entry) → List Entry → Result Content BlifFault
read_first library models model =
    if not (has_instances (model_lines model)) then read_lines library model
    else first_fault (models_fault library models model) (read_lines library (flat_model library models model))

-- what the lines of a file, without those of a KISS2 part, are read as, with a library if there is
-- one
unfoldable pub read_models : Option (List Gate) → List Entry → Result Content BlifFault
read_models library lines = first_fault
    (first_of (file_fault library [] (models_of lines) ∷ unknown_model (models_of lines) ∷ []))
    (read_first library (models_of lines) (slice_index_or (models_of lines) 0 []))

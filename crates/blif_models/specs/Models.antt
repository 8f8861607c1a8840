-- The models of a file, and which of them put in which others. Source: BLIF appendix of the SIS
-- report (UCB/ERL M92/41): a file is a list of models, each begun by `.model`; `.subckt MODEL` and
-- pairs `formal=actual` put a model in place of the line. The first model is the one that is read.
-- Lines before the first `.model` line are a model of their own, which is named `top`; `.end` may
-- be missing. That is the project's own.
use Rattle.std.specs.Prelude.{ℕ, zero, suc, ◌+◌, ◌==◌, Bool, true, false, ◌||◌, Option, List, [], ◌∷◌, map, find, position, filter_map, sum_by, length, bytes_eq, unwrap_or, slice_index_or, if◌then◌else◌}
use Rattle.std.specs.List.{filter, list_any, range_with_len}
use Rattle.sis_text.specs.Entries.{Entry}
use Rattle.line_words.specs.LineWords.{first_word, other_words}
use Rattle.circuit_checks.specs.Graphs.{reads_of, leads}
use Rattle.blif_gates.specs.GateLines.{is_pair}
use Rattle.blif_lines.specs.declared.keyword.Keyword.{Keyword}
use Rattle.blif_lines.specs.declared.keyword.Keyword.TheVariants.{Model}
use Rattle.blif_lines.specs.Keyword.{kind_of}
use Rattle.blif_lines.specs.Lines.{is_node_kind}
use Rattle.blif_lines.specs.Reader.{model_lines, model_name, is_instance_kind}
use Rattle.blif_models.specs.declared.limits.TheConstants.{MAX_DEPTH}

-- whether a kind is that of the line that begins a model
abbrev pub is_model_kind : Keyword → Bool
is_model_kind Model = true
is_model_kind kind = false

-- whether a line begins a model
abbrev pub begins_model : Entry → Bool
begins_model line = is_model_kind (kind_of line)

-- a line before the models of the lines after it: it belongs to the first of them, unless that one
-- begins with a line of its own
unfoldable pub put_before : Entry → List (List Entry) → List (List Entry)
put_before line [] = (line ∷ []) ∷ []
put_before line ([] ∷ models) = (line ∷ []) ∷ models
put_before line ((next ∷ lines) ∷ models) =
    if begins_model next then (line ∷ []) ∷ (next ∷ lines) ∷ models else (line ∷ next ∷ lines) ∷ models

-- the models of a file, each by its lines: they are split before each `.model` line
unfoldable pub models_of : List Entry → List (List Entry)
models_of [] = []
models_of (line ∷ lines) = put_before line (models_of lines)

-- whether a line puts in an instance of a model
abbrev pub is_instance : Entry → Bool
is_instance line = is_instance_kind (kind_of line)

-- the lines of instances in a model
unfoldable pub instances_in : List Entry → List Entry
instances_in model = filter is_instance (model_lines model)

-- the name of the model of an instance, and the instance's pairs: a word that is no pair says
-- nothing
abbrev pub model_of : Entry → List ℕ
model_of line = first_word (other_words line.words)

abbrev pub pairs_of : Entry → List (List ℕ)
pairs_of line = filter is_pair (other_words (other_words line.words))

-- the index of the first model of a name
abbrev pub index_of : List (List Entry) → List ℕ → Option ℕ
index_of models name = position (λ model. bytes_eq name (model_name model)) models

-- the model of a name, without its don't-care part; no lines if there is none
unfoldable pub body_of : List (List Entry) → List ℕ → List Entry
body_of models name = model_lines (unwrap_or (find (λ model. bytes_eq name (model_name model)) models) [])

-- the graph of the models: each leads to those of its instances
unfoldable pub model_graph : List (List Entry) → List (List ℕ)
model_graph models = map (λ model. filter_map (λ line. index_of models (model_of line)) (instances_in model)) models

-- whether the first model is this one, or puts it in, itself or by others
unfoldable pub is_used : List (List ℕ) → ℕ → Bool
is_used graph place = place == 0 || leads graph (length graph) 0 place

-- the graph of the models that are used: the others lead nowhere
unfoldable pub used_graph : List (List ℕ) → List (List ℕ)
used_graph graph = map (λ place. if is_used graph place then reads_of graph place else []) (range_with_len 0 (length graph))

-- the models that are used, in file order
unfoldable pub used_models : List (List Entry) → List (List Entry)
used_models models = map (λ place. slice_index_or models place []) (filter (is_used (model_graph models)) (range_with_len 0 (length models)))

-- the number of tables, latches and gates in the lines of a model, with those of its instances,
-- where models nest less deep than the given number
unfoldable pub nodes_at : List (List Entry) → ℕ → List Entry → ℕ
nodes_at models zero lines = 0
nodes_at models (suc depth) lines = sum_by
    (λ line. if is_instance line then nodes_at models depth (body_of models (model_of line)) else (if is_node_kind (kind_of line) then 1 else 0)) lines

-- the same for the model of a name
abbrev pub size_of : List (List Entry) → List ℕ → ℕ
size_of models name = nodes_at models (MAX_DEPTH + 1) (body_of models name)

-- whether a walk of so many steps begins at a node
unfoldable pub nests : List (List ℕ) → ℕ → ℕ → Bool
nests graph zero place = true
nests graph (suc depth) place = list_any (nests graph depth) (reads_of graph place)

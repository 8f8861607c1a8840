-- The models of a file as the reader keeps them: the text and, by the text, the lines of each.
use Rattle.std.specs.Prelude.{ℕ, ◌+◌, not, Option, None, List, map, drop, bytes_eq, if◌then◌else◌}
use Rattle.std.specs.Borrow.{Bor}
use Rattle.std.specs.List.{prefix_len}
use Rattle.indexmap.specs.IndexMap.{IndexMap, get_by}
use Rattle.sis_text.specs.declared.places.Line.{Line}
use Rattle.sis_text.specs.Entries.{Entry, entry_at}
use Rattle.blif_models.specs.Models.{begins_model, is_instance, model_of, index_of}

-- the lines of a text by their words
abbrev pub lines_at : List ℕ → List Line → List Entry
lines_at text lines = map (entry_at text) lines

-- the models of a text by the words of their lines
abbrev pub models_at : List ℕ → List (Bor (List Line)) → List (List Entry)
models_at text models = map (λ (model : Bor (List Line)). lines_at text model.now) models

-- the number of lines of the first model of some lines
abbrev pub first_count : List Entry → ℕ
first_count lines = 1 + prefix_len (λ line. not (begins_model line)) (drop 1 lines)

-- the index of a name in a map whose keys are slices of a text
abbrev pub place_of : {S : Type 0} → IndexMap (Bor (List ℕ)) ℕ S → List ℕ → Option ℕ
place_of names name = get_by (λ (key : Bor (List ℕ)). bytes_eq name key.now) names

-- the index of the model that a line puts in, if the line does and the model is there
abbrev pub edge_of : List (List Entry) → Entry → Option ℕ
edge_of models line = if is_instance line then index_of models (model_of line) else None

-- a text and its models
pub record Parted : Type 0 where
  pub text : List ℕ
  pub models : List (List Entry)

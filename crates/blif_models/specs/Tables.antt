-- What is known of the models of a file by their indices, and the lines that a model's line adds.
-- Only clauses of this crate's own functions cite this module.
use Rattle.std.specs.Prelude.{◌≡◌, ◌<◌, ℕ, ◌+◌, ◌==◌, Bool, true, false, not, ◌||◌, Option, Some, None, List, [], ◌∷◌, flat_map, length, slice_index_or, if◌then◌else◌}
use Rattle.std.specs.List.{filter, list_any}
use Rattle.circuit_model.specs.Names.{has}
use Rattle.circuit_checks.specs.Sets.{Alike}
use Rattle.sis_text.specs.Entries.{Entry}
use Rattle.genlib_format.specs.declared.gate.Gate.{Gate as TheGate}
use Rattle.line_words.specs.LineWords.{other_words}
use Rattle.blif_lines.specs.declared.keyword.Keyword.{Keyword}
use Rattle.blif_lines.specs.declared.keyword.Keyword.TheVariants.{Latch}
use Rattle.blif_lines.specs.Keyword.{kind_of}
use Rattle.blif_lines.specs.Reader.{model_lines}
use Rattle.blif_models.specs.Models.{is_instance, model_of, body_of, nodes_at, size_of}
use Rattle.blif_models.specs.Ports.{ports_at}
use Rattle.blif_models.specs.Flat.{numbered, instance_of, lines_outside, flat_lines, stays}
use Rattle.blif_models.specs.declared.limits.TheConstants.{MAX_DEPTH}

-- which names the inputs of each model are, and whether its size is 0, by its index
pub record AreTables (library : Option (List TheGate)) (models : List (List Entry)) (inputs : List (List (List ℕ))) (sizes : List ℕ) : Type 0 where
  pub as_many_inputs : length inputs ≡ length models
  pub as_many_sizes : length sizes ≡ length models
  pub right_inputs : (place : ℕ) → place < length models → Alike (slice_index_or inputs place []) (ports_at library models (MAX_DEPTH + 1) (model_lines (slice_index_or models place []))).inputs
  pub right_sizes : (place : ℕ) → place < length models → (slice_index_or sizes place 0 == 0) ≡ (nodes_at models (MAX_DEPTH + 1) (model_lines (slice_index_or models place [])) == 0)

-- the index of the model of a name, if that has a table, a latch or a gate
pub record IsFilled (models : List (List Entry)) (name : List ℕ) (place : ℕ) : Type 0 where
  pub within : place < length models
  pub filled : (size_of models name == 0) ≡ false
  pub body : model_lines (slice_index_or models place []) ≡ body_of models name

abbrev pub IsFilledOrNone : List (List Entry) → List ℕ → Option ℕ → Type 0
IsFilledOrNone models name None = (size_of models name == 0) ≡ true
IsFilledOrNone models name (Some place) = IsFilled models name place

-- the lines of an instance of a line with so many instances before it, by the lines of its model
abbrev pub put_lines : Option (List TheGate) → List (List Entry) → ℕ → Entry → List Entry → List Entry
put_lines library models place line inner = lines_outside (instance_of library models place line inner) inner

-- the lines that a line adds
abbrev pub item_lines : Option (List TheGate) → List (List Entry) → ℕ → ℕ → Entry → List Entry
item_lines library models depth place line =
    if not (is_instance line) then line ∷ []
    else (if size_of models (model_of line) == 0 then []
    else put_lines library models place line (flat_lines library models depth (body_of models (model_of line))))

-- the number of instances after a line
abbrev pub place_after : ℕ → Entry → ℕ
place_after place line = if is_instance line then place + 1 else place

-- the lines that lines add, from one on with so many instances before it
unfoldable pub lines_from : Option (List TheGate) → List (List Entry) → ℕ → ℕ → List Entry → List Entry
lines_from library models depth place lines = flat_map (λ (item : ℕ × Entry). item_lines library models depth item.0 item.1) (numbered place lines)

-- the lines that stay
abbrev pub staying : List Entry → List Entry
staying lines = filter (λ line. stays (kind_of line)) lines

-- names are those of a list and some more
abbrev pub Adds : List (List ℕ) → List (List ℕ) → List (List ℕ) → Type 0
Adds old new names = (name : List ℕ) → has new name ≡ (has old name || has names name)

-- whether a line is that of a latch with a control, by its kind and its words after the first
abbrev pub is_timed : Keyword → List (List ℕ) → Bool
is_timed Latch (input ∷ output ∷ kind ∷ control ∷ words) = true
is_timed kind words = false

-- whether such a line is among lines
unfoldable pub some_timed : List Entry → Bool
some_timed lines = list_any (λ line. is_timed (kind_of line) (other_words line.words)) lines

-- a set has the given names, if lines have a control that is looked up in it
abbrev pub HoldsFor : List Entry → List (List ℕ) → List (List ℕ) → Type 0
HoldsFor lines set names = some_timed lines ≡ true → Alike set names

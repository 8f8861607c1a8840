-- A file of one model without an instance is read as by the reader of one model.
use Rattle.std.specs.Prelude.{◌≡◌, ℕ, zero, suc, Bool, false, not, Option, Some, None, Result, List, [], ◌∷◌, drop, take, slice_index_or, if◌then◌else◌}
use Rattle.std.specs.List.{filter, list_any, prefix_len}
use Rattle.std.specs.Option.{option_or}
use Rattle.std.proofs.Common.{refl, ◌∙◌, ap}
use Rattle.std.proofs.lemmas.Bool.{or_parts, or_from}
use Rattle.sis_text.specs.Entries.{Entry}
use Rattle.genlib_format.specs.declared.gate.Gate.{Gate as TheGate}
use Rattle.blif_lines.specs.declared.keyword.Keyword.{Keyword}
use Rattle.blif_lines.specs.declared.keyword.Keyword.TheVariants.{Model, Inputs, Outputs, Clock, Names, Latch, Gate, Subckt, StartKiss, DontCare, End, Skipped, Row, Other}
use Rattle.blif_lines.specs.declared.content.Content.{Content}
use Rattle.blif_lines.specs.declared.fault.BlifFault.{BlifFault}
use Rattle.blif_lines.specs.Keyword.{kind_of}
use Rattle.blif_lines.specs.Lines.{first_of, begins_part, line_fault}
use Rattle.blif_lines.specs.Reader.{model_lines, has_instances, first_fault, first_line_fault, told_by, read_told, read_lines}
use Rattle.blif_models.specs.Models.{begins_model, is_instance, put_before, models_of, instances_in}
use Rattle.blif_models.specs.Flat.{flat_model}
use Rattle.blif_models.specs.Reader.{later_fault, lines_fault, file_fault, unknown_model, models_fault, read_first, read_models}

-- lines of which only the first may begin a model are one model
one_split : (line : Entry) (lines : List Entry) → list_any begins_model lines ≡ false → models_of (line ∷ lines) ≡ (line ∷ lines) ∷ []
unfolding models_of put_before
one_split line [] none = refl
one_split line (next ∷ lines) none =
    let parts = or_parts (begins_model next) (list_any begins_model lines) none in
    ap (put_before line) (one_split next lines parts.1)
    ∙ ap (λ (b : Bool). if b then (line ∷ []) ∷ (next ∷ lines) ∷ [] else (line ∷ next ∷ lines) ∷ []) parts.0

-- the lines of the first model have no fault of their own besides those of the reader of one model
no_later_fault : (kind : Keyword) (line : Entry) → later_fault [] kind line ≡ None
no_later_fault Model line = refl
no_later_fault Inputs line = refl
no_later_fault Outputs line = refl
no_later_fault Clock line = refl
no_later_fault Names line = refl
no_later_fault Latch line = refl
no_later_fault Gate line = refl
no_later_fault Subckt line = refl
no_later_fault StartKiss line = refl
no_later_fault DontCare line = refl
no_later_fault End line = refl
no_later_fault Skipped line = refl
no_later_fault Row line = refl
no_later_fault Other line = refl

two_causes : (first last : Option BlifFault) → first_of (first ∷ None ∷ last ∷ []) ≡ option_or first last
unfolding first_of
two_causes (Some fault) last = refl
two_causes None (Some fault) = refl
two_causes None None = refl

first_model_faults : (library : Option (List TheGate)) (back lines : List Entry) → lines_fault library [] back lines ≡ first_line_fault library back lines
unfolding lines_fault first_line_fault
first_model_faults library back [] = refl
first_model_faults library back (line ∷ lines) =
    ap (λ (later : Option BlifFault). first_of (line_fault library back line ∷ later ∷ lines_fault library [] (line ∷ back) lines ∷ [])) (no_later_fault (kind_of line) line)
    ∙ two_causes (line_fault library back line) (lines_fault library [] (line ∷ back) lines)
    ∙ ap (option_or (line_fault library back line)) (first_model_faults library (line ∷ back) lines)

or_none : (fault : Option BlifFault) → option_or fault None ≡ fault
or_none None = refl
or_none (Some fault) = refl

one_model_faults : (library : Option (List TheGate)) (lines : List Entry) → file_fault library [] (lines ∷ []) ≡ first_line_fault library [] lines
unfolding file_fault
one_model_faults library lines = or_none (lines_fault library [] [] lines) ∙ first_model_faults library [] lines

-- no instance is among the lines of the model
none_taken : (test : Entry → Bool) (count : ℕ) (lines : List Entry) → list_any test lines ≡ false → list_any test (take count lines) ≡ false
none_taken test zero lines none = refl
none_taken test (suc count) [] none = refl
none_taken test (suc count) (line ∷ lines) none =
    let parts = or_parts (test line) (list_any test lines) none in
    or_from (test line) (list_any test (take count lines)) parts.0 (none_taken test count lines parts.1)

none_kept : (test : Entry → Bool) (lines : List Entry) → list_any test lines ≡ false → filter test lines ≡ []
none_kept test [] none = refl
none_kept test (line ∷ lines) none =
    let parts = or_parts (test line) (list_any test lines) none in
    ap (λ (b : Bool). if b then line ∷ filter test lines else filter test lines) parts.0 ∙ none_kept test lines parts.1

no_instances : (lines : List Entry) → has_instances lines ≡ false → has_instances (model_lines lines) ≡ false
unfolding has_instances model_lines
no_instances lines none = none_taken is_instance (prefix_len (λ (line : Entry). not (begins_part (kind_of line))) lines) lines none

no_unknown : (lines : List Entry) → has_instances (model_lines lines) ≡ false → unknown_model (lines ∷ []) ≡ None
unfolding unknown_model instances_in has_instances
no_unknown lines none = rw (none_kept is_instance (model_lines lines) none) refl

same_again : (fault : Option BlifFault) (read : Result Content BlifFault) → first_fault (first_of (fault ∷ None ∷ [])) (first_fault fault read) ≡ first_fault fault read
unfolding first_of
same_again None read = refl
same_again (Some fault) read = refl

no_lines : (library : Option (List TheGate)) → read_models library [] ≡ read_lines library []
unfolding read_models read_first models_of file_fault unknown_model first_of has_instances model_lines
no_lines library = refl

pub one_model : (library : Option (List TheGate)) (lines : List Entry) → list_any begins_model (drop 1 lines) ≡ false → has_instances lines ≡ false → read_models library lines ≡ read_lines library lines
unfolding read_models read_first read_lines
one_model library [] one none = no_lines library
one_model library (line ∷ rest) one none =
    ap (λ (models : List (List Entry)). first_fault (first_of (file_fault library [] models ∷ unknown_model models ∷ [])) (read_first library models (slice_index_or models 0 []))) (one_split line rest one)
    ∙ ap (λ (unknown : Option BlifFault). first_fault (first_of (file_fault library [] (lines ∷ []) ∷ unknown ∷ [])) (read_first library (lines ∷ []) lines)) (no_unknown lines (no_instances lines none))
    ∙ ap (λ (fault : Option BlifFault). first_fault (first_of (fault ∷ None ∷ [])) (read_first library (lines ∷ []) lines)) (one_model_faults library lines)
    ∙ ap (λ (b : Bool). first_fault (first_of (first_line_fault library [] lines ∷ None ∷ [])) (if not b then read_lines library lines else first_fault (models_fault library (lines ∷ []) lines) (read_lines library (flat_model library (lines ∷ []) lines)))) (no_instances lines none)
    ∙ same_again (first_line_fault library [] lines) (read_told (told_by library lines))
  where
    lines : List Entry
    lines = line ∷ rest

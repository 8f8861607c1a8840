-- What holds of each circuit, and of each head of a machine, that is read of a file of models.
use Rattle.std.specs.Prelude.{◌≡◌, ℕ, Bool, true, false, not, Option, Some, None, Result, Ok, Err, List, [], ◌∷◌, ◌++◌, slice_index_or, if◌then◌else◌}
use Rattle.std.specs.List.{AllByRecursion}
use Rattle.std.specs.Option.{option_or}
use Rattle.std.proofs.Common.{refl, sym, ◌∙◌, ap}
use Rattle.circuit_model.specs.Counts.{IsWithinLimits}
use Rattle.circuit_model.specs.Soundness.{IsSound}
use Rattle.circuit_model.specs.declared.circuit.Circuit.{Circuit}
use Rattle.sis_text.specs.Entries.{Entry}
use Rattle.line_words.specs.LineWords.{other_words}
use Rattle.genlib_format.specs.declared.gate.Gate.{Gate as TheGate}
use Rattle.blif_lines.specs.declared.keyword.Keyword.{Keyword}
use Rattle.blif_lines.specs.declared.content.Content.{Content}
use Rattle.blif_lines.specs.declared.content.Content.TheVariants as content
use Rattle.blif_lines.specs.declared.content.Head.{Head}
use Rattle.blif_lines.specs.declared.fault.BlifFault.{BlifFault}
use Rattle.blif_lines.specs.Heads.{IsSoundHead, HasShortHead}
use Rattle.blif_lines.specs.Libraries.{IsSoundLibrary}
use Rattle.blif_lines.specs.Limits.{HasShortNames}
use Rattle.blif_lines.specs.Keyword.{kind_of}
use Rattle.blif_lines.specs.Lines.{first_of, part_behind, nodes_in, told_before, fault_as, line_fault}
use Rattle.blif_lines.specs.Reader.{model_lines, has_instances, model_name, first_fault, read_lines}
use Rattle.blif_lines.proofs.Faults.{none_first, none_later}
use Rattle.blif_lines.proofs.Named.{some_words}
use Rattle.blif_lines.proofs.WhatIsRead.{AreWordLines, sound_read, sound_head_read, small_read, short_read, short_head_read}
use Rattle.blif_models.specs.Models.{begins_model, put_before, models_of}
use Rattle.blif_models.specs.Flat.{flat_model}
use Rattle.blif_models.specs.Reader.{later_fault, lines_fault, file_fault, unknown_model, models_fault, read_first, read_models}
use Rattle.blif_models.proofs.FlatWords.{HasWords}
use Rattle.blif_models.proofs.PortWords.{NamesSome, AreProperLines, model_at, flat_model_words}

-- the lines by which a content is read: those of the first model, or those of the flat one
abbrev first_model : List Entry → List Entry
first_model lines = slice_index_or (models_of lines) 0 []

passed : (fault : Option BlifFault) (read : Result Content BlifFault) (what : Content) → first_fault fault read ≡ Ok what → (fault ≡ None) × (read ≡ Ok what)
passed None read what e = (refl, e)
passed (Some fault) read what e = absurd (let off : Err fault ≡ Ok what = e in cc)

-- the models of lines of words, where no line has a fault

line_named : (library : Option (List TheGate)) (back : List Entry) (line : Entry) → line_fault library back line ≡ None → NamesSome line
unfolding line_fault
line_named library back line none is =
    some_words (part_behind back) (nodes_in back) line.number (other_words line.words)
    (sym (ap (λ (kind : Keyword). fault_as library kind (told_before back) line.number (other_words line.words) line.words) is) ∙ none)

lines_named : (library : Option (List TheGate)) (earlier : List (List ℕ)) (back lines : List Entry) → lines_fault library earlier back lines ≡ None → AllByRecursion NamesSome lines
unfolding lines_fault
lines_named library earlier back [] none = tt
lines_named library earlier back (line ∷ lines) none =
    let fault = line_fault library back line in
    let later = later_fault earlier (kind_of line) line in
    let rest = lines_fault library earlier (line ∷ back) lines in (
      line_named library back line (none_first fault (later ∷ rest ∷ []) none),
      lines_named library earlier (line ∷ back) lines (none_first rest [] (none_later later (rest ∷ []) (none_later fault (later ∷ rest ∷ []) none))),
    )

none_either : (first last : Option BlifFault) → option_or first last ≡ None → (first ≡ None) × (last ≡ None)
none_either None last e = (refl, e)
none_either (Some fault) last e = absurd (let off : Some fault ≡ None = e in cc)

models_named : (library : Option (List TheGate)) (earlier : List (List ℕ)) (models : List (List Entry)) → file_fault library earlier models ≡ None → AllByRecursion (AllByRecursion NamesSome) models
unfolding file_fault
models_named library earlier [] none = tt
models_named library earlier (model ∷ models) none =
    let both = none_either (lines_fault library earlier [] model) (file_fault library (earlier ++ model_name model ∷ []) models) none in
    (lines_named library earlier [] model both.0, models_named library (earlier ++ model_name model ∷ []) models both.1)

put_words : (line : Entry) (models : List (List Entry)) → HasWords line → AllByRecursion AreWordLines models → AllByRecursion AreWordLines (put_before line models)
unfolding put_before
put_words line [] words a = ((words, tt), tt)
put_words line ([] ∷ models) words a = ((words, tt), a.1)
put_words line ((next ∷ lines) ∷ models) words a = by (begins_model next)
  where
    by : (b : Bool) → AllByRecursion AreWordLines (if b then (line ∷ []) ∷ (next ∷ lines) ∷ models else (line ∷ next ∷ lines) ∷ models)
    by true = ((words, tt), a)
    by false = ((words, a.0), a.1)

models_words : (lines : List Entry) → AreWordLines lines → AllByRecursion AreWordLines (models_of lines)
unfolding models_of
models_words [] a = tt
models_words (line ∷ lines) a = put_words line (models_of lines) a.0 (models_words lines a.1)

both_hold : (lines : List Entry) → AreWordLines lines → AllByRecursion NamesSome lines → AreProperLines lines
both_hold [] a b = tt
both_hold (line ∷ lines) a b = (record { words = a.0; some = b.0 }, both_hold lines a.1 b.1)

first_words : (lines : List Entry) → AreWordLines lines → AreWordLines (first_model lines)
first_words lines a = model_at AreWordLines tt (models_of lines) 0 (models_words lines a)

flat_words_read : (library : Option (List TheGate)) (lines : List Entry) → AreWordLines lines → file_fault library [] (models_of lines) ≡ None → AreWordLines (flat_model library (models_of lines) (first_model lines))
flat_words_read library lines a none =
    flat_model_words library (models_of lines) (first_model lines) (models_words lines a)
    (both_hold (first_model lines) (first_words lines a) (model_at (AllByRecursion NamesSome) tt (models_of lines) 0 (models_named library [] (models_of lines) none)))

-- what is read is read by itself, by the lines of the first model or by those of the flat one
read_by : (library : Option (List TheGate)) (lines : List Entry) (what : Content) (P : Type 0) → read_models library lines ≡ Ok what
    → ((model : List Entry) → (AreWordLines lines → AreWordLines model) → read_lines library model ≡ Ok what → P) → P
unfolding read_models read_first
read_by library lines what P e from = by (has_instances (model_lines (first_model lines))) read.1
  where
    models : List (List Entry)
    models = models_of lines

    read : (first_of (file_fault library [] models ∷ unknown_model models ∷ []) ≡ None) × (read_first library models (first_model lines) ≡ Ok what)
    read = passed (first_of (file_fault library [] models ∷ unknown_model models ∷ [])) (read_first library models (first_model lines)) what e

    no_fault : file_fault library [] models ≡ None
    no_fault = none_first (file_fault library [] models) (unknown_model models ∷ []) read.0

    by : (b : Bool) → (if not b then read_lines library (first_model lines) else first_fault (models_fault library models (first_model lines)) (read_lines library (flat_model library models (first_model lines)))) ≡ Ok what → P
    by false f = from (first_model lines) (first_words lines) f
    by true f =
        from (flat_model library models (first_model lines)) (λ words. flat_words_read library lines words no_fault)
        (passed (models_fault library models (first_model lines)) (read_lines library (flat_model library models (first_model lines))) what f).1

-- circuits
pub small_models : (library : Option (List TheGate)) (lines : List Entry) (circuit : Circuit) → IsSoundLibrary library → read_models library lines ≡ Ok (content.Circuit circuit) → IsWithinLimits circuit
small_models library lines circuit sound e =
    read_by library lines (content.Circuit circuit) (IsWithinLimits circuit) e (λ model words read. small_read library model circuit sound read)

pub short_models : (library : Option (List TheGate)) (lines : List Entry) (circuit : Circuit) → read_models library lines ≡ Ok (content.Circuit circuit) → HasShortNames circuit
short_models library lines circuit e =
    read_by library lines (content.Circuit circuit) (HasShortNames circuit) e (λ model words read. short_read library model circuit read)

pub sound_models : (library : Option (List TheGate)) (lines : List Entry) (circuit : Circuit) → AreWordLines lines → read_models library lines ≡ Ok (content.Circuit circuit) → IsSound circuit
sound_models library lines circuit a e =
    read_by library lines (content.Circuit circuit) (IsSound circuit) e (λ model words read. sound_read library model circuit (words a) read)

-- heads of machines
pub short_head_models : (library : Option (List TheGate)) (lines : List Entry) (head : Head) → read_models library lines ≡ Ok (content.Head head) → HasShortHead head
short_head_models library lines head e =
    read_by library lines (content.Head head) (HasShortHead head) e (λ model words read. short_head_read library model head read)

pub sound_head_models : (library : Option (List TheGate)) (lines : List Entry) (head : Head) → AreWordLines lines → read_models library lines ≡ Ok (content.Head head) → IsSoundHead head
sound_head_models library lines head a e =
    read_by library lines (content.Head head) (IsSoundHead head) e (λ model words read. sound_head_read library model head (words a) read)

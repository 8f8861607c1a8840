-- Lines of a model that are taken into a draft and checked besides: the walk over them, and the
-- fault that is found.
use Rattle.std.specs.Prelude.{◌≡◌, ℕ, ◌+◌, ◌<◌, ◌≤◌, Option, Some, None, Result, Ok, Err, List, [], ◌∷◌, ◌++◌, map, length, drop, reverse}
use Rattle.std.specs.List.{drop-map}
use Rattle.std.specs.Option.{option_or}
use Rattle.std.specs.Result.{result_err}
use Rattle.std.proofs.Common.{refl, sym, ◌∙◌, ap, get_or}
use Rattle.std.proofs.lemmas.List.{drop_all, reverse-append}
use Rattle.sis_text.specs.declared.places.Line.{Line}
use Rattle.sis_text.specs.Entries.{Entry, entry_at}
use Rattle.genlib_format.specs.declared.gate.Gate.{Gate}
use Rattle.blif_lines.specs.declared.draft.Draft.{Draft}
use Rattle.blif_lines.specs.declared.fault.BlifFault.{BlifFault}
use Rattle.sis_text.specs.declared.read_fault.ReadFault.{ReadFault}
use Rattle.sis_text.specs.declared.read_fault.ReadFault.TheVariants.{Fault, Memory}
use Rattle.blif_lines.specs.Keyword.{kind_of}
use Rattle.blif_lines.specs.Lines.{first_of, line_fault}
use Rattle.blif_lines.specs.Reader.{unless}
use Rattle.blif_lines.specs.Steps.{take_entry, take_entries, no_lines, onward, Takes}
use Rattle.blif_lines.proofs.AfterLines.{fault_next}
use Rattle.blif_lines.proofs.Walk.{taken_behind}
use Rattle.kiss_format.proofs.Walk.{entries_left}
use Rattle.blif_models.specs.Checking.{check_entry, check_entries, Checks}
use Rattle.blif_models.specs.Reader.{later_fault, lines_fault}

-- the walk over the lines
walk_more : (library : Option (List Gate)) (earlier : List (List ℕ)) (draft : Draft) (source : List ℕ) (lines : List Line) (i : ℕ) (line : Line) → i < length lines → line ≡ get_or lines i line
    → check_entries library earlier draft (drop i (map (entry_at source) lines)) ≡ onward (check_entry library earlier draft (entry_at source line)) (λ next. check_entries library earlier next (drop (i + 1) (map (entry_at source) lines)))
unfolding check_entries
walk_more library earlier draft source lines i line h is = ap (check_entries library earlier draft) (entries_left source lines i line h is)

pub walk_done : (library : Option (List Gate)) (earlier : List (List ℕ)) (draft : Draft) (source : List ℕ) (lines : List Line) (i : ℕ) → length lines ≤ i
    → check_entries library earlier draft (drop i (map (entry_at source) lines)) ≡ Ok draft
unfolding check_entries
walk_done library earlier draft source lines i h = ap (check_entries library earlier draft) (drop-map (entry_at source) i lines ∙ ap (map (entry_at source)) (drop_all i lines h))

pub walk_goes_on : (library : Option (List Gate)) (earlier : List (List ℕ)) (draft next : Draft) (source : List ℕ) (lines : List Line) (i : ℕ) (line : Line) → i < length lines → line ≡ get_or lines i line
    → check_entry library earlier draft (entry_at source line) ≡ Ok next
    → check_entries library earlier next (drop (i + 1) (map (entry_at source) lines)) ≡ check_entries library earlier draft (drop i (map (entry_at source) lines))
walk_goes_on library earlier draft next source lines i line h is taken =
    sym (walk_more library earlier draft source lines i line h is ∙ ap (λ (r : Result Draft BlifFault). onward r (λ e. check_entries library earlier e (drop (i + 1) (map (entry_at source) lines)))) taken)

pub walk_fails : (library : Option (List Gate)) (earlier : List (List ℕ)) (fault : ReadFault BlifFault) (draft next : Draft) (source : List ℕ) (lines : List Line) (i : ℕ) (line : Line) → i < length lines → line ≡ get_or lines i line
    → Takes (Err fault) next (check_entry library earlier draft (entry_at source line)) → (whole : Result Draft BlifFault) → check_entries library earlier draft (drop i (map (entry_at source) lines)) ≡ whole → Takes (Err fault) next whole
walk_fails library earlier (Fault fault) draft next source lines i line h is taken whole e =
    sym e ∙ (walk_more library earlier draft source lines i line h is ∙ ap (λ (r : Result Draft BlifFault). onward r (λ d. check_entries library earlier d (drop (i + 1) (map (entry_at source) lines)))) taken)
walk_fails library earlier Memory draft next source lines i line h is taken whole e = tt

-- one line more is taken
taken_more : (library : Option (List Gate)) (front : List Entry) (line : Entry) (draft next : Draft) → take_entries library no_lines front ≡ Ok draft → take_entry library draft line ≡ Ok next → take_entries library no_lines (front ++ line ∷ []) ≡ Ok next
unfolding take_entries
taken_more library front line draft next e t =
    taken_behind library front (line ∷ []) no_lines
    ∙ ap (λ (r : Result Draft BlifFault). onward r (λ last. take_entries library last (line ∷ []))) e
    ∙ ap (λ (r : Result Draft BlifFault). onward r (λ last. Ok last)) t

third : (fault : Option BlifFault) → fault ≡ first_of (None ∷ None ∷ fault ∷ [])
unfolding first_of
third None = refl
third (Some fault) = refl

-- the fault that is found is that of the lines
pub checked_fault : (library : Option (List Gate)) (earlier : List (List ℕ)) (front lines : List Entry) (draft : Draft) → take_entries library no_lines front ≡ Ok draft
    → result_err (check_entries library earlier draft lines) ≡ lines_fault library earlier (reverse front) lines
unfolding check_entries check_entry lines_fault first_of
checked_fault library earlier front [] draft e = refl
checked_fault library earlier front (line ∷ lines) draft e = by (take_entry library draft line) refl (later_fault earlier (kind_of line) line) refl
    (λ next t. checked_fault library earlier (front ++ line ∷ []) lines next (taken_more library front line draft next e t)
    ∙ ap (λ back. lines_fault library earlier back lines) (reverse-append front (line ∷ [])))
  where
    own : (step : Result Draft BlifFault) → take_entry library draft line ≡ step → line_fault library (reverse front) line ≡ result_err step
    own step s = sym (fault_next library front draft line e) ∙ ap result_err s

    by : (step : Result Draft BlifFault) → take_entry library draft line ≡ step → (later : Option BlifFault) → later_fault earlier (kind_of line) line ≡ later
        → ((next : Draft) → take_entry library draft line ≡ Ok next → result_err (check_entries library earlier next lines) ≡ lines_fault library earlier (line ∷ reverse front) lines)
        → result_err (check_entries library earlier draft (line ∷ lines)) ≡ lines_fault library earlier (reverse front) (line ∷ lines)
    by (Err fault) s later l rec = rw (own (Err fault) s, s) refl
    by (Ok next) s (Some fault) l rec = rw (own (Ok next) s, s, l) refl
    by (Ok next) s None l rec = rw (own (Ok next) s, s, l) (rec next s ∙ third (lines_fault library earlier (line ∷ reverse front) lines))

-- lines without a fault are taken
pub checked_taken : (library : Option (List Gate)) (earlier : List (List ℕ)) (lines : List Entry) (draft last : Draft) → check_entries library earlier draft lines ≡ Ok last → take_entries library draft lines ≡ Ok last
unfolding check_entries check_entry take_entries
checked_taken library earlier [] draft last e = e
checked_taken library earlier (line ∷ lines) draft last e = by (take_entry library draft line) (later_fault earlier (kind_of line) line) e (λ next. checked_taken library earlier lines next last)
  where
    by : (step : Result Draft BlifFault) (later : Option BlifFault) → onward (onward step (λ next. unless later next)) (λ next. check_entries library earlier next lines) ≡ Ok last
        → ((next : Draft) → check_entries library earlier next lines ≡ Ok last → take_entries library next lines ≡ Ok last) → onward step (λ next. take_entries library next lines) ≡ Ok last
    by (Ok next) None c rec = rec next c
    by (Ok next) (Some fault) c rec = absurd (cc)
    by (Err fault) later c rec = absurd (cc)

-- the lines of a model, from none on
pub model_checks : (A : Type 0) (library : Option (List Gate)) (earlier : List (List ℕ)) (model : List Entry) (last : Draft) (fault : ReadFault BlifFault) → Takes (Err fault) last (check_entries library earlier no_lines model)
    → Checks {A = A} (Err fault) (lines_fault library earlier [] model)
unfolding take_entries
model_checks A library earlier model last (Fault fault) took = sym (checked_fault library earlier [] model no_lines refl) ∙ ap result_err took
model_checks A library earlier model last Memory took = tt

pub model_passes : (library : Option (List Gate)) (earlier : List (List ℕ)) (model : List Entry) (last : Draft) → check_entries library earlier no_lines model ≡ Ok last → lines_fault library earlier [] model ≡ None
unfolding take_entries
model_passes library earlier model last took = sym (checked_fault library earlier [] model no_lines refl) ∙ ap result_err took

-- the first of two faults
pub first_checks : (A B : Type 0) (fault : ReadFault BlifFault) (one other whole : Option BlifFault) → whole ≡ option_or one other → Checks {A = A} (Err fault) one → Checks {A = B} (Err fault) whole
first_checks A B (Fault fault) one other whole is here = is ∙ ap (λ found. option_or found other) here
first_checks A B Memory one other whole is here = tt

pub second_checks : (A B : Type 0) (fault : ReadFault BlifFault) (one other whole : Option BlifFault) → whole ≡ option_or one other → one ≡ None → Checks {A = A} (Err fault) other → Checks {A = B} (Err fault) whole
second_checks A B (Fault fault) one other whole is none here = is ∙ ap (λ found. option_or found other) none ∙ here
second_checks A B Memory one other whole is none here = tt

pub both_pass : (one other whole : Option BlifFault) → whole ≡ option_or one other → one ≡ None → whole ≡ other
both_pass one other whole is none = is ∙ ap (λ found. option_or found other) none

-- The draft after lines without a fault: what it tells of them, and the fault of one line more.

use Rattle.std.specs.Prelude.{◌≡◌, Option, Some, None, Ok, List, [], ◌∷◌, ◌++◌, reverse}
use Rattle.std.specs.Result.{result_err}
use Rattle.std.proofs.Common.{refl, sym, ◌∙◌, ap, subst, append_assoc}
use Rattle.std.proofs.lemmas.List.{append-nil, reverse-append}
use Rattle.sis_text.specs.Entries.{Entry}
use Rattle.genlib_format.specs.declared.gate.Gate.{Gate}
use Rattle.blif_lines.specs.Keyword.{kind_of}
use Rattle.blif_lines.specs.Lines.{line_fault}
use Rattle.blif_lines.specs.Reader.{has_instances, model_lines, Told}
use Rattle.blif_lines.specs.Steps.{take_entry, take_entries, no_lines, told_of}
use Rattle.blif_lines.specs.declared.fault.BlifFault.{BlifFault}
use Rattle.blif_lines.specs.declared.draft.Draft.{Draft}
use Rattle.blif_lines.proofs.Agreement.{Tells, nothing_told, tells_kept, told_end, told_on, ends_told, fault_at, next_at, taken_entry, fault_of_line}

-- a line before others that are taken without a fault
pub one_taken : {R : Type 0} (library : Option (List Gate)) (line : Entry) (lines : List Entry) (draft last : Draft)
    → (fault_at library draft line ≡ None → take_entries library (next_at library draft line) lines ≡ Ok last → R)
    → take_entries library draft (line ∷ lines) ≡ Ok last → R
unfolding take_entries
one_taken {R} library line lines draft last next e = step (fault_at library draft line) refl
  where
    step : (fault : Option BlifFault) → fault_at library draft line ≡ fault → R
    step None f = next f (rw (taken_entry library draft line None f) at e)
    step (Some fault) f = absurd (let wrong = rw (taken_entry library draft line (Some fault) f) at e in cc)

newest_first : (line : Entry) (lines back : List Entry) → reverse (line ∷ lines) ++ back ≡ reverse lines ++ line ∷ back
newest_first line lines back =
    ap (λ all. all ++ back) (reverse-append (line ∷ []) lines) ∙ append_assoc (reverse lines) (line ∷ []) back

pub tells_last : (library : Option (List Gate)) (lines back : List Entry) (draft last : Draft) → Tells back draft → take_entries library draft lines ≡ Ok last → Tells (reverse lines ++ back) last
unfolding take_entries
tells_last library [] back draft last t e = let same : draft ≡ last = cc in subst (Tells back) same t
tells_last library (line ∷ lines) back draft last t e =
    one_taken library line lines draft last
    (λ f rest. subst (λ told. Tells told last) (sym (newest_first line lines back))
    (tells_last library lines (line ∷ back) (next_at library draft line) last (tells_kept library line back draft t) rest)) e

pub last_told : (library : Option (List Gate)) (lines back : List Entry) (draft last : Draft) → Tells back draft → take_entries library draft lines ≡ Ok last → told_of last ≡ told_end library draft.has_part draft lines
unfolding take_entries
last_told library [] back draft last t e =
    let same : draft ≡ last = cc in subst (λ (one : Draft). told_of one ≡ told_end library draft.has_part draft []) same (ends_told library back draft t draft.has_part refl)
last_told library (line ∷ lines) back draft last t e =
    one_taken library line lines draft last
    (λ f rest. last_told library lines (line ∷ back) (next_at library draft line) last (tells_kept library line back draft t) rest
    ∙ told_on library line lines back draft t f) e

-- an instance is kept exactly if the model has one
pub instances_last : (library : Option (List Gate)) (lines : List Entry) (last : Draft) → take_entries library no_lines lines ≡ Ok last → last.has_instances ≡ has_instances (model_lines lines)
instances_last library lines last e = ap (λ (told : Told). told.has_instances) (last_told library lines [] no_lines last nothing_told e)

-- one line more has the fault that it has after the lines before it
pub fault_next : (library : Option (List Gate)) (lines : List Entry) (draft : Draft) (line : Entry) → take_entries library no_lines lines ≡ Ok draft → result_err (take_entry library draft line) ≡ line_fault library (reverse lines) line
fault_next library lines draft line e = by (fault_at library draft line) refl
  where
    told : Tells (reverse lines) draft
    told = subst (λ back. Tells back draft) (append-nil (reverse lines)) (tells_last library lines [] no_lines draft nothing_told e)

    by : (fault : Option BlifFault) → fault_at library draft line ≡ fault → result_err (take_entry library draft line) ≡ line_fault library (reverse lines) line
    by None f = rw (taken_entry library draft line None f, fault_of_line library line (reverse lines) draft None f told) refl
    by (Some fault) f = rw (taken_entry library draft line (Some fault) f, fault_of_line library line (reverse lines) draft (Some fault) f told) refl

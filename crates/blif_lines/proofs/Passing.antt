-- What holds of the draft before the first line, and is kept by each line without a fault, holds
-- after the last one.

use Rattle.std.specs.Prelude.{◌≡◌, Bool, true, false, Option, Some, None, Result, Ok, Err, List, [], ◌∷◌}
use Rattle.std.specs.List.{AllByRecursion}
use Rattle.std.proofs.Common.{refl, subst}
use Rattle.circuit_model.specs.declared.circuit.Circuit.{Circuit}
use Rattle.sis_text.specs.Entries.{Entry}
use Rattle.genlib_format.specs.declared.gate.Gate.{Gate}
use Rattle.blif_lines.specs.Reader.{unless, circuit_of, whole_fault, head_of, head_fault, is_machine, read_as, read_told}
use Rattle.blif_lines.specs.Steps.{take_entries, no_lines, told_of, finish}
use Rattle.blif_lines.specs.declared.fault.BlifFault.{BlifFault}
use Rattle.blif_lines.specs.declared.content.Content.TheVariants as content
use Rattle.blif_lines.specs.declared.content.Head.{Head}
use Rattle.blif_lines.specs.declared.draft.Draft.{Draft}
use Rattle.blif_lines.proofs.Agreement.{fault_at, next_at, taken_entry}

-- an invariant of the steps over lines of some kind
pub kept_through : (library : Option (List Gate)) (Inv : Draft → Type 0) (Fits : Entry → Type 0) (lines : List Entry) (draft last : Draft)
    → ((line : Entry) (one : Draft) → Fits line → fault_at library one line ≡ None → Inv one → Inv (next_at library one line))
    → AllByRecursion Fits lines → Inv draft → take_entries library draft lines ≡ Ok last → Inv last
unfolding take_entries
kept_through library Inv Fits [] draft last keep fits i e = let same : draft ≡ last = cc in subst Inv same i
kept_through library Inv Fits (line ∷ lines) draft last keep fits i e =
    step (fault_at library draft line) refl
    (λ f rest. kept_through library Inv Fits lines (next_at library draft line) last keep fits.1 (keep line draft fits.0 f i) rest)
  where
    step : (fault : Option BlifFault) → fault_at library draft line ≡ fault → (fault_at library draft line ≡ None → take_entries library (next_at library draft line) lines ≡ Ok last → Inv last) → Inv last
    step None f rec = rec f (rw (taken_entry library draft line None f) at e)
    step (Some fault) f rec = absurd (let wrong = rw (taken_entry library draft line (Some fault) f) at e in cc)

-- the draft after the last line, if a circuit is read
pub record LastDraft (library : Option (List Gate)) (lines : List Entry) (circuit : Circuit) : Type 0 where
  pub draft : Draft
  pub taken : take_entries library no_lines lines ≡ Ok draft
  pub whole : whole_fault (told_of draft) ≡ None
  pub circuit_is : circuit_of (told_of draft) ≡ circuit

-- the same where the head of a machine is read
pub record LastHead (library : Option (List Gate)) (lines : List Entry) (head : Head) : Type 0 where
  pub draft : Draft
  pub taken : take_entries library no_lines lines ≡ Ok draft
  pub whole : head_fault (told_of draft) ≡ None
  pub head_is : head_of (told_of draft) ≡ head

pub last_draft : (library : Option (List Gate)) (lines : List Entry) (circuit : Circuit) → finish (take_entries library no_lines lines) ≡ Ok (content.Circuit circuit) → LastDraft library lines circuit
unfolding read_told
last_draft library lines circuit e = by (take_entries library no_lines lines) refl e
  where
    end : (draft : Draft) → take_entries library no_lines lines ≡ Ok draft → (fault : Option BlifFault) → whole_fault (told_of draft) ≡ fault → unless fault (content.Circuit (circuit_of (told_of draft))) ≡ Ok (content.Circuit circuit) → LastDraft library lines circuit
    end draft t None f u = record { draft = draft; taken = t; whole = f; circuit_is = cc }
    end draft t (Some fault) f u = absurd (cc)

    no_head : (draft : Draft) → (fault : Option BlifFault) → unless fault (content.Head (head_of (told_of draft))) ≡ Ok (content.Circuit circuit) → ⊥
    no_head draft None u = cc
    no_head draft (Some fault) u = cc

    which : (draft : Draft) → take_entries library no_lines lines ≡ Ok draft → (machine : Bool) → read_as machine (told_of draft) ≡ Ok (content.Circuit circuit) → LastDraft library lines circuit
    which draft t true u = absurd (no_head draft (head_fault (told_of draft)) u)
    which draft t false u = end draft t (whole_fault (told_of draft)) refl u

    by : (steps : Result Draft BlifFault) → take_entries library no_lines lines ≡ steps → finish steps ≡ Ok (content.Circuit circuit) → LastDraft library lines circuit
    by (Ok draft) t f = which draft t (is_machine (told_of draft)) f
    by (Err fault) t f = absurd (cc)

pub last_head : (library : Option (List Gate)) (lines : List Entry) (head : Head) → finish (take_entries library no_lines lines) ≡ Ok (content.Head head) → LastHead library lines head
unfolding read_told
last_head library lines head e = by (take_entries library no_lines lines) refl e
  where
    end : (draft : Draft) → take_entries library no_lines lines ≡ Ok draft → (fault : Option BlifFault) → head_fault (told_of draft) ≡ fault → unless fault (content.Head (head_of (told_of draft))) ≡ Ok (content.Head head) → LastHead library lines head
    end draft t None f u = record { draft = draft; taken = t; whole = f; head_is = cc }
    end draft t (Some fault) f u = absurd (cc)

    no_circuit : (draft : Draft) → (fault : Option BlifFault) → unless fault (content.Circuit (circuit_of (told_of draft))) ≡ Ok (content.Head head) → ⊥
    no_circuit draft None u = cc
    no_circuit draft (Some fault) u = cc

    which : (draft : Draft) → take_entries library no_lines lines ≡ Ok draft → (machine : Bool) → read_as machine (told_of draft) ≡ Ok (content.Head head) → LastHead library lines head
    which draft t true u = end draft t (head_fault (told_of draft)) refl u
    which draft t false u = absurd (no_circuit draft (whole_fault (told_of draft)) u)

    by : (steps : Result Draft BlifFault) → take_entries library no_lines lines ≡ steps → finish steps ≡ Ok (content.Head head) → LastHead library lines head
    by (Ok draft) t f = which draft t (is_machine (told_of draft)) f
    by (Err fault) t f = absurd (cc)

-- Lines fed to a draft in parts.
use Rattle.std.proofs.Common.{◌≡◌, ℕ, ◌+◌, ◌<◌, ◌≤◌, Bool, true, false, if◌then◌else◌, Option, Result, Ok, Err, List, [], ◌∷◌, ◌++◌, length, get_or, drop, refl, sym, ap, ◌∙◌, subst}
use Rattle.std.proofs.lemmas.List.{drop_more, drop_all}
use Rattle.sis_text.specs.Entries.{Entry}
use Rattle.genlib_format.specs.declared.gate.Gate.{Gate as TheGate}
use Rattle.blif_lines.specs.declared.fault.BlifFault.{BlifFault}
use Rattle.sis_text.specs.declared.read_fault.ReadFault.{ReadFault}
use Rattle.blif_lines.specs.declared.draft.Draft.{Draft}
use Rattle.blif_lines.specs.Keyword.{kind_of}
use Rattle.blif_lines.specs.Steps.{take_entry, take_entries, onward, Takes}
use Rattle.blif_lines.proofs.Walk.{taken_behind, front_fails}
use Rattle.blif_models.specs.Flat.{stays}
use Rattle.blif_models.specs.Tables.{staying}

-- a part that is taken
pub part_taken : (library : Option (List TheGate)) (draft next : Draft) (front back all : List Entry) (whole : Result Draft BlifFault) → all ≡ front ++ back
    → take_entries library draft front ≡ Ok next → take_entries library draft all ≡ whole → take_entries library next back ≡ whole
part_taken library draft next front back all whole split taken begun =
    sym (ap (λ (r : Result Draft BlifFault). onward r (λ last. take_entries library last back)) taken)
    ∙ sym (taken_behind library front back draft)
    ∙ sym (ap (take_entries library draft) split)
    ∙ begun

-- a part with a fault
pub part_fails : (library : Option (List TheGate)) (fault : ReadFault BlifFault) (draft next : Draft) (front back all : List Entry) (whole : Result Draft BlifFault) → all ≡ front ++ back
    → Takes (Err fault) next (take_entries library draft front) → take_entries library draft all ≡ whole → Takes (Err fault) next whole
part_fails library fault draft next front back all whole split failed begun =
    subst (Takes (Err fault) next) (sym (ap (take_entries library draft) split) ∙ begun) (front_fails library fault draft next front back failed)

-- nothing left
pub none_left : (library : Option (List TheGate)) (draft : Draft) (all : List Entry) (whole : Result Draft BlifFault) → all ≡ [] → take_entries library draft all ≡ whole → whole ≡ Ok draft
unfolding take_entries
none_left library draft all whole none begun = sym begun ∙ ap (take_entries library draft) none

-- a line alone
pub alone : (library : Option (List TheGate)) (answer : Result (Unit {0}) (ReadFault BlifFault)) (draft next : Draft) (line : Entry) → Takes answer next (take_entry library draft line)
    → Takes answer next (take_entries library draft (line ∷ []))
unfolding take_entries
alone library answer draft next line took = subst (Takes answer next) (sym (by (take_entry library draft line))) took
  where
    by : (step : Result Draft BlifFault) → onward step (λ (last : Draft). Ok last) ≡ step
    by (Ok last) = refl
    by (Err fault) = refl

pub stays_alone : (line : Entry) → stays (kind_of line) ≡ true → staying (line ∷ []) ≡ line ∷ []
stays_alone line e = rw e refl

pub goes_alone : (line : Entry) → stays (kind_of line) ≡ false → staying (line ∷ []) ≡ []
goes_alone line e = rw e refl

pub staying_append : (front back : List Entry) → staying (front ++ back) ≡ staying front ++ staying back
staying_append [] back = refl
staying_append (line ∷ front) back = by (stays (kind_of line)) (staying_append front back)
  where
    by : (b : Bool) → staying (front ++ back) ≡ staying front ++ staying back
        → (if b then line ∷ staying (front ++ back) else staying (front ++ back)) ≡ (if b then line ∷ staying front else staying front) ++ staying back
    by true e = ap (λ (rest : List Entry). line ∷ rest) e
    by false e = e

pub staying_left : (lines : List Entry) (i : ℕ) (line : Entry) → i < length lines → line ≡ get_or lines i line
    → staying (drop i lines) ≡ staying (line ∷ []) ++ staying (drop (i + 1) lines)
staying_left lines i line lt is =
    ap staying (drop_more lines i line lt ∙ ap (λ (one : Entry). one ∷ drop (i + 1) lines) (sym is)) ∙ staying_append (line ∷ []) (drop (i + 1) lines)

pub staying_end : (lines : List Entry) (i : ℕ) → length lines ≤ i → staying (drop i lines) ≡ []
staying_end lines i ge = ap staying (drop_all i lines ge)

pub take_stays : (library : Option (List TheGate)) (answer : Result (Unit {0}) (ReadFault BlifFault)) (draft next : Draft) (line : Entry) → stays (kind_of line) ≡ true
    → Takes answer next (take_entry library draft line) → Takes answer next (take_entries library draft (staying (line ∷ [])))
take_stays library answer draft next line e took =
    subst (λ (lines : List Entry). Takes answer next (take_entries library draft lines)) (sym (stays_alone line e)) (alone library answer draft next line took)

pub take_goes : (library : Option (List TheGate)) (draft : Draft) (line : Entry) → stays (kind_of line) ≡ false → take_entries library draft (staying (line ∷ [])) ≡ Ok draft
unfolding take_entries
take_goes library draft line e = ap (take_entries library draft) (goes_alone line e)

pub staying_split : (front back all : List Entry) → all ≡ front ++ back → staying all ≡ staying front ++ staying back
staying_split front back all e = ap staying e ∙ staying_append front back

pub staying_none : (all : List Entry) → all ≡ [] → staying all ≡ []
staying_none all e = ap staying e

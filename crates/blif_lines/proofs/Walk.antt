-- The walk over the lines of a text: one line more, and its ends.

use Rattle.std.specs.Prelude.{◌≡◌, ℕ, ◌+◌, ◌<◌, ◌≤◌, length, drop, Option, Result, Ok, Err, List, [], ◌∷◌, ◌++◌, map}
use Rattle.std.specs.List.{drop-map}
use Rattle.std.proofs.Common.{refl, sym, ◌∙◌, ap, subst, get_or}
use Rattle.std.proofs.lemmas.List.{drop_all}
use Rattle.sis_text.specs.declared.places.Line.{Line}
use Rattle.sis_text.specs.Entries.{Entry, entry_at}
use Rattle.genlib_format.specs.declared.gate.Gate.{Gate}
use Rattle.blif_lines.specs.declared.fault.BlifFault.{BlifFault}
use Rattle.sis_text.specs.declared.read_fault.ReadFault.{ReadFault}
use Rattle.sis_text.specs.declared.read_fault.ReadFault.TheVariants.{Fault, Memory}
use Rattle.blif_lines.specs.declared.draft.Draft.{Draft}
use Rattle.blif_lines.specs.Steps.{take_entry, take_entries, onward, Takes}
use Rattle.kiss_format.proofs.Walk.{entries_left}

pub walk_more : (library : Option (List Gate)) (draft : Draft) (source : List ℕ) (lines : List Line) (i : ℕ) (line : Line) → i < length lines → line ≡ get_or lines i line → take_entries library draft (drop i (map (entry_at source) lines)) ≡ onward (take_entry library draft (entry_at source line)) (λ next. take_entries library next (drop (i + 1) (map (entry_at source) lines)))
unfolding take_entries
walk_more library draft source lines i line h is =
    ap (take_entries library draft) (entries_left source lines i line h is)

pub walk_done : (library : Option (List Gate)) (draft : Draft) (source : List ℕ) (lines : List Line) (i : ℕ) → length lines ≤ i → take_entries library draft (drop i (map (entry_at source) lines)) ≡ Ok draft
unfolding take_entries
walk_done library draft source lines i h =
    ap (take_entries library draft) (drop-map (entry_at source) i lines ∙ ap (map (entry_at source)) (drop_all i lines h))

pub walk_goes_on : (library : Option (List Gate)) (draft next : Draft) (source : List ℕ) (lines : List Line) (i : ℕ) (line : Line) → i < length lines → line ≡ get_or lines i line → take_entry library draft (entry_at source line) ≡ Ok next → take_entries library next (drop (i + 1) (map (entry_at source) lines)) ≡ take_entries library draft (drop i (map (entry_at source) lines))
walk_goes_on library draft next source lines i line h is taken =
    sym (walk_more library draft source lines i line h is ∙ ap (λ (r : Result Draft BlifFault). onward r (λ e. take_entries library e (drop (i + 1) (map (entry_at source) lines)))) taken)

pub walk_fails : (library : Option (List Gate)) (fault : ReadFault BlifFault) (draft next : Draft) (source : List ℕ) (lines : List Line) (i : ℕ) (line : Line) → i < length lines → line ≡ get_or lines i line → Takes (Err fault) next (take_entry library draft (entry_at source line)) → (whole : Result Draft BlifFault) → take_entries library draft (drop i (map (entry_at source) lines)) ≡ whole → Takes (Err fault) next whole
walk_fails library (Fault fault) draft next source lines i line h is taken whole e =
    sym e ∙ (walk_more library draft source lines i line h is ∙ ap (λ (r : Result Draft BlifFault). onward r (λ d. take_entries library d (drop (i + 1) (map (entry_at source) lines)))) taken)
walk_fails library Memory draft next source lines i line h is taken whole e = tt

-- lines after others are read after them
pub taken_behind : (library : Option (List Gate)) (front back : List Entry) (draft : Draft) → take_entries library draft (front ++ back) ≡ onward (take_entries library draft front) (λ next. take_entries library next back)
unfolding take_entries
taken_behind library [] back draft = refl
taken_behind library (line ∷ front) back draft = by (take_entry library draft line) (λ next. taken_behind library front back next)
  where
    by : (step : Result Draft BlifFault) → ((next : Draft) → take_entries library next (front ++ back) ≡ onward (take_entries library next front) (λ last. take_entries library last back))
        → onward step (λ next. take_entries library next (front ++ back)) ≡ onward (onward step (λ next. take_entries library next front)) (λ last. take_entries library last back)
    by (Ok next) rest = rest next
    by (Err fault) rest = refl

pub front_fails : (library : Option (List Gate)) (fault : ReadFault BlifFault) (draft next : Draft) (front back : List Entry) → Takes (Err fault) next (take_entries library draft front) → Takes (Err fault) next (take_entries library draft (front ++ back))
front_fails library (Fault fault) draft next front back h =
    taken_behind library front back draft ∙ ap (λ (taken : Result Draft BlifFault). onward taken (λ last. take_entries library last back)) h
front_fails library Memory draft next front back h = tt

pub back_taken : (library : Option (List Gate)) (answer : Result (Unit {0}) (ReadFault BlifFault)) (draft middle next : Draft) (front back : List Entry) → take_entries library draft front ≡ Ok middle → Takes answer next (take_entries library middle back) → Takes answer next (take_entries library draft (front ++ back))
back_taken library answer draft middle next front back e h =
    subst (Takes answer next) (sym (taken_behind library front back draft ∙ ap (λ (taken : Result Draft BlifFault). onward taken (λ last. take_entries library last back)) e)) h

-- What holds of each circuit, and of each head of a machine, that is read.

use Rattle.std.specs.Prelude.{◌≡◌, true, Option, Result, Ok, Err, List, [], ◌∷◌}
use Rattle.std.specs.List.{AllByRecursion}
use Rattle.std.proofs.Common.{refl, sym, ◌∙◌, ap, subst, arith}
use Rattle.sis_base.specs.Written.{is_word}
use Rattle.circuit_model.specs.Counts.{IsWithinLimits}
use Rattle.circuit_model.specs.Soundness.{IsShaped, IsSound}
use Rattle.circuit_model.specs.declared.circuit.Circuit.{Circuit}
use Rattle.circuit_model.specs.declared.circuit.Table.{Table}
use Rattle.sis_text.specs.Entries.{Entry}
use Rattle.line_words.specs.LineWords.{other_words}
use Rattle.genlib_format.specs.declared.gate.Gate.{Gate}
use Rattle.blif_lines.specs.Keyword.{kind_of}
use Rattle.blif_lines.specs.Heads.{IsSoundHead, HasShortHead}
use Rattle.blif_lines.specs.Libraries.{IsSoundLibrary}
use Rattle.blif_lines.specs.Limits.{HasShortNames}
use Rattle.blif_lines.specs.Reader.{read_lines, Reads}
use Rattle.blif_lines.specs.Steps.{take_entries, no_lines, told_of, finished, finish, HasApartTables, Takes}
use Rattle.blif_lines.specs.declared.fault.BlifFault.{BlifFault}
use Rattle.sis_text.specs.declared.read_fault.ReadFault.{ReadFault}
use Rattle.sis_text.specs.declared.read_fault.ReadFault.TheVariants.{Fault, Memory}
use Rattle.blif_lines.specs.declared.content.Content.{Content}
use Rattle.blif_lines.specs.declared.content.Content.TheVariants as content
use Rattle.blif_lines.specs.declared.content.Head.{Head}
use Rattle.blif_lines.specs.declared.draft.Draft.{Draft}
use Rattle.blif_lines.proofs.Agreement.{all_agree}
use Rattle.blif_lines.proofs.Passing.{kept_through, last_draft, last_head}
use Rattle.blif_lines.proofs.Named.{Named, named_kept, named_nothing, all_named, head_named, IsShort, IsWord, short_mentioned, words_mentioned}
use Rattle.blif_lines.proofs.NameLists.{others_have}
use Rattle.blif_lines.proofs.Small.{IsSmallDraft, IsGoodTable, AreKept, shaped_kept, good_kept, small_kept, small_nothing, small_kept_all}
use Rattle.blif_lines.proofs.Told.{IsToldDraft, told_kept, told_nothing, tables_apart, sound_kept, head_ports_once}

pub any_line : (lines : List Entry) → AllByRecursion (λ (line : Entry). Unit {0}) lines
any_line [] = tt
any_line (line ∷ lines) = (tt, any_line lines)

abbrev pub AreWordLines : List Entry → Type 0
AreWordLines lines = AllByRecursion (λ (line : Entry). AllByRecursion (λ word. is_word word ≡ true) line.words) lines

pub small_last : (library : Option (List Gate)) (P : Table → Type 0) → AreKept library P → (lines : List Entry) (last : Draft) → take_entries library no_lines lines ≡ Ok last → IsSmallDraft P last
small_last library P k lines last e =
    kept_through library (IsSmallDraft P) (λ (line : Entry). Unit {0}) lines no_lines last
    (λ line one u f s. small_kept library P k (kind_of line) one line.number (other_words line.words) line.words f s) (any_line lines) (small_nothing P) e

pub told_last : (library : Option (List Gate)) (lines : List Entry) (last : Draft) → take_entries library no_lines lines ≡ Ok last → IsToldDraft last
told_last library lines last e =
    kept_through library IsToldDraft (λ (line : Entry). Unit {0}) lines no_lines last
    (λ line one u f s. told_kept library (kind_of line) one line.number (other_words line.words) line.words f s) (any_line lines) told_nothing e

pub short_last : (library : Option (List Gate)) (lines : List Entry) (last : Draft) → take_entries library no_lines lines ≡ Ok last → Named IsShort last
short_last library lines last e =
    kept_through library (Named IsShort) (λ (line : Entry). Unit {0}) lines no_lines last
    (λ line one u f s. named_kept library IsShort (kind_of line) one line.number (other_words line.words) line.words (omega arith) (short_mentioned library (kind_of line) one line.number (other_words line.words) line.words f) f s) (any_line lines) (named_nothing IsShort (omega arith)) e

pub words_last : (library : Option (List Gate)) (lines : List Entry) (last : Draft) → AreWordLines lines → take_entries library no_lines lines ≡ Ok last → Named IsWord last
unfolding is_word
words_last library lines last a e =
    kept_through library (Named IsWord) (λ (line : Entry). AllByRecursion IsWord line.words) lines no_lines last
    (λ line one words f s. named_kept library IsWord (kind_of line) one line.number (other_words line.words) line.words refl
    (words_mentioned library one.has_part (kind_of line) (other_words line.words) (others_have IsWord line.words words)) f s) a (named_nothing IsWord refl) e

pub apart_last : (library : Option (List Gate)) (lines : List Entry) (last : Draft) → take_entries library no_lines lines ≡ Ok last → HasApartTables (told_of last)
apart_last library lines last e = tables_apart last (told_last library lines last e)

-- the answer if a line has a fault, and after the last line
pub fault_read : (library : Option (List Gate)) (fault : ReadFault BlifFault) (last : Draft) (lines : List Entry) → Takes (Err fault) last (take_entries library no_lines lines) → Reads (Err fault) (read_lines library lines)
fault_read library (Fault fault) last lines h = sym (all_agree library lines) ∙ ap finish h
fault_read library Memory last lines h = tt

pub whole_read : (library : Option (List Gate)) (answer : Result Content (ReadFault BlifFault)) (last : Draft) (lines : List Entry) → take_entries library no_lines lines ≡ Ok last → Reads answer (finished last) → Reads answer (read_lines library lines)
whole_read library answer last lines e h = subst (Reads answer) (sym (ap finish e) ∙ all_agree library lines) h

-- circuits
pub small_read : (library : Option (List Gate)) (lines : List Entry) (circuit : Circuit) → IsSoundLibrary library → read_lines library lines ≡ Ok (content.Circuit circuit) → IsWithinLimits circuit
small_read library lines circuit sound e =
    let last = last_draft library lines circuit (all_agree library lines ∙ e) in subst IsWithinLimits last.circuit_is (small_kept_all last.draft (small_last library IsGoodTable (good_kept library sound) lines last.draft last.taken))

pub short_read : (library : Option (List Gate)) (lines : List Entry) (circuit : Circuit) → read_lines library lines ≡ Ok (content.Circuit circuit) → HasShortNames circuit
short_read library lines circuit e =
    let last = last_draft library lines circuit (all_agree library lines ∙ e) in subst HasShortNames last.circuit_is (record { names = all_named IsShort last.draft (short_last library lines last.draft last.taken) })

pub sound_read : (library : Option (List Gate)) (lines : List Entry) (circuit : Circuit) → AreWordLines lines → read_lines library lines ≡ Ok (content.Circuit circuit) → IsSound circuit
sound_read library lines circuit a e =
    let last = last_draft library lines circuit (all_agree library lines ∙ e) in
    subst IsSound last.circuit_is
    (sound_kept last.draft (words_last library lines last.draft a last.taken) (small_last library IsShaped (shaped_kept library) lines last.draft last.taken) (told_last library lines last.draft last.taken) last.whole)

-- heads of machines
pub short_head_read : (library : Option (List Gate)) (lines : List Entry) (head : Head) → read_lines library lines ≡ Ok (content.Head head) → HasShortHead head
short_head_read library lines head e =
    let last = last_head library lines head (all_agree library lines ∙ e) in subst HasShortHead last.head_is (record { names = head_named IsShort last.draft (short_last library lines last.draft last.taken) })

pub sound_head_read : (library : Option (List Gate)) (lines : List Entry) (head : Head) → AreWordLines lines → read_lines library lines ≡ Ok (content.Head head) → IsSoundHead head
sound_head_read library lines head a e =
    let last = last_head library lines head (all_agree library lines ∙ e) in
    subst IsSoundHead last.head_is (record { words = head_named IsWord last.draft (words_last library lines last.draft a last.taken); once = head_ports_once last.draft (told_last library lines last.draft last.taken) last.whole })

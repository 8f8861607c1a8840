-- The walk over the lines of a text: those before the end, one line more, and its ends.
use Rattle.std.specs.Prelude.{◌≡◌, ℕ, ◌+◌, ◌<◌, ◌≤◌, length, take, drop, not, Bool, None, cond, Err, List, [], ◌∷◌, map}
use Rattle.std.specs.List.{take_while, prefix_len, take-map, drop-map}
use Rattle.std.proofs.Common.{refl, sym, ◌∙◌, ap, subst, get_or}
use Rattle.std.proofs.lemmas.List.{drop_more, drop_all}
use Rattle.std.proofs.lemmas.List.Folds.{length-prefix_len}
use Rattle.sis_text.specs.declared.places.Line.{Line}
use Rattle.sis_text.specs.Entries.{Entry, entry_at}
use Rattle.kiss_format.specs.Keywords.{kind_of, is_end_kind, before_end}
use Rattle.kiss_format.specs.declared.fault.KissFault.{KissFault}
use Rattle.sis_text.specs.declared.read_fault.ReadFault.{ReadFault}
use Rattle.sis_text.specs.declared.read_fault.ReadFault.TheVariants.{Fault, Memory}
use Rattle.kiss_format.specs.declared.draft.Draft.{Draft}
use Rattle.kiss_format.specs.Statements.{said_by}
use Rattle.kiss_format.specs.Lines.{told, states_in, rows_in}
use Rattle.kiss_format.specs.Reader.{whole, read_all}
use Rattle.kiss_format.specs.Steps.{with_said, no_lines, draft_fault, Takes, Ends}
use Rattle.kiss_format.proofs.Told.{all_after, Stands, stands_on, stands_wrong, stands_last}

prefix_map : {A B : Type 0} (f : A → B) (test : B → Bool) (items : List A) → prefix_len test (map f items) ≡ prefix_len (λ item. test (f item)) items
prefix_map f test [] = refl
prefix_map f test (item ∷ items) = ap (λ n. cond (test (f item)) (1 + n) 0) (prefix_map f test items)

abbrev goes_on : Entry → Bool
goes_on line = not (is_end_kind (kind_of line))

-- the lines before the end
pub lines_before : (source : List ℕ) (lines : List Line) →
    map (entry_at source) (take (length (take_while (λ (line : Line). not (is_end_kind (kind_of (entry_at source line)))) lines)) lines) ≡ before_end (map (entry_at source) lines)
unfolding before_end
lines_before source lines =
    ap (λ n. map (entry_at source) (take n lines)) (length-prefix_len (λ (line : Line). goes_on (entry_at source line)) lines ∙ sym (prefix_map (entry_at source) goes_on lines))
    ∙ sym (take-map (entry_at source) (prefix_len goes_on (map (entry_at source) lines)) lines)

-- the entries from a place on
pub entries_left : (source : List ℕ) (lines : List Line) (i : ℕ) (line : Line) → i < length lines → line ≡ get_or lines i line → drop i (map (entry_at source) lines) ≡ entry_at source line ∷ drop (i + 1) (map (entry_at source) lines)
entries_left source lines i line h is =
    drop-map (entry_at source) i lines
    ∙ ap (map (entry_at source)) (drop_more lines i line h)
    ∙ ap (λ (first : Line). entry_at source first ∷ map (entry_at source) (drop (i + 1) lines)) (sym is)
    ∙ ap (λ (rest : List Entry). entry_at source line ∷ rest) (sym (drop-map (entry_at source) (i + 1) lines))

-- a draft has what the lines before a place tell
abbrev pub IsBefore : List ℕ → List Line → ℕ → Draft → Type 0
IsBefore source lines i draft = Stands (read_all (map (entry_at source) lines)) (drop i (map (entry_at source) lines)) draft

pub walk_begun : (source : List ℕ) (lines : List Line) (draft : Draft) → draft ≡ no_lines → IsBefore source lines 0 draft
unfolding told states_in rows_in
walk_begun source lines draft e = ([], e, all_after (map (entry_at source) lines))

pub walk_goes_on : (source : List ℕ) (lines : List Line) (i : ℕ) (line : Line) (draft next : Draft) → i < length lines → line ≡ get_or lines i line → IsBefore source lines i draft
    → draft_fault draft line.number (said_by (entry_at source line).words) ≡ None → next ≡ with_said (said_by (entry_at source line).words) draft → IsBefore source lines (i + 1) next
walk_goes_on source lines i line draft next h is stands right grown =
    let read = read_all (map (entry_at source) lines) in
    stands_on read (entry_at source line) (drop (i + 1) (map (entry_at source) lines)) draft next
    (subst (λ left. Stands read left draft) (entries_left source lines i line h is) stands) right grown

pub walk_fails : (source : List ℕ) (lines : List Line) (i : ℕ) (line : Line) (draft next : Draft) (fault : ReadFault KissFault) → i < length lines → line ≡ get_or lines i line → IsBefore source lines i draft
    → Takes (Err fault) next (draft_fault draft line.number (said_by (entry_at source line).words)) (with_said (said_by (entry_at source line).words) draft) → Ends (Err fault) next (read_all (map (entry_at source) lines))
walk_fails source lines i line draft next (Fault fault) h is stands wrong =
    let read = read_all (map (entry_at source) lines) in
    stands_wrong read (entry_at source line) (drop (i + 1) (map (entry_at source) lines)) draft fault
    (subst (λ left. Stands read left draft) (entries_left source lines i line h is) stands) wrong
walk_fails source lines i line draft next Memory h is stands wrong = tt

pub walk_done : (source : List ℕ) (lines : List Line) (i : ℕ) (draft : Draft) → length lines ≤ i → IsBefore source lines i draft → read_all (map (entry_at source) lines) ≡ whole draft
walk_done source lines i draft h stands =
    let read = read_all (map (entry_at source) lines) in
    stands_last read draft (subst (λ left. Stands read left draft) (drop-map (entry_at source) i lines ∙ ap (map (entry_at source)) (drop_all i lines h)) stands)

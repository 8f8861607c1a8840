-- What statements tell with one more, and what is read as they are taken one after the other, which
-- is what is read of all of them.
use Rattle.std.specs.Prelude.{◌≡◌, Option, Some, None, Result, Err, List, [], ◌∷◌, ◌++◌, map}
use Rattle.std.specs.Option.{option_or}
use Rattle.std.proofs.Common.{refl, sym, ◌∙◌, ap, append_assoc}
use Rattle.std.proofs.lemmas.List.{append-nil, reverse-append}
use Rattle.sis_text.specs.Entries.{Entry}
use Rattle.circuit_model.specs.declared.machine.Machine.{Machine}
use Rattle.kiss_format.specs.Statements.{Said, Inputs, Outputs, Reset, Row, Nothing, NoRow, NoHeader, said_by}
use Rattle.kiss_format.specs.Lines.{told, states_in, rows_in, form_fault, limit_fault, line_fault}
use Rattle.kiss_format.specs.Reader.{whole, unless, first_line_fault, statements_of, read_all}
use Rattle.kiss_format.specs.Steps.{with_said, draft_fault}
use Rattle.kiss_format.specs.declared.draft.Draft.{Draft}
use Rattle.kiss_format.specs.declared.fault.KissFault.{KissFault}

-- what is read after statements of the lines that follow, taken one by one
unfoldable pub read_after : List Said → List Entry → Result Machine KissFault
read_after before [] = whole (told before)
read_after before (line ∷ lines) = unless (line_fault before line.number (said_by line.words)) (read_after (said_by line.words ∷ before) lines)

pub read_parted : (before : List Said) (lines : List Entry) → read_after before lines ≡ unless (first_line_fault before lines) (whole (told (statements_of lines ++ before)))
unfolding read_after first_line_fault
read_parted before [] = refl
read_parted before (line ∷ lines) = by (line_fault before line.number (said_by line.words)) (read_parted (said_by line.words ∷ before) lines)
  where
    newest : statements_of (line ∷ lines) ++ before ≡ statements_of lines ++ said_by line.words ∷ before
    newest =
        ap (λ all. all ++ before) (reverse-append (said_by line.words ∷ []) (map (λ (one : Entry). said_by one.words) lines))
        ∙ append_assoc (statements_of lines) (said_by line.words ∷ []) before

    by : (cause : Option KissFault)
        → read_after (said_by line.words ∷ before) lines ≡ unless (first_line_fault (said_by line.words ∷ before) lines) (whole (told (statements_of lines ++ said_by line.words ∷ before)))
        → unless cause (read_after (said_by line.words ∷ before) lines) ≡ unless (option_or cause (first_line_fault (said_by line.words ∷ before) lines)) (whole (told (statements_of (line ∷ lines) ++ before)))
    by None rest = rest ∙ ap (λ all. unless (first_line_fault (said_by line.words ∷ before) lines) (whole (told all))) (sym newest)
    by (Some fault) rest = refl

pub all_after : (lines : List Entry) → read_all lines ≡ read_after [] lines
unfolding read_all
all_after lines = sym (read_parted [] lines ∙ ap (λ all. unless (first_line_fault [] lines) (whole (told all))) (append-nil (statements_of lines)))

pub told_more : (statement : Said) (before : List Said) → told (statement ∷ before) ≡ with_said statement (told before)
unfolding told states_in rows_in
told_more (Inputs count) before = refl
told_more (Outputs count) before = refl
told_more (Reset name) before = refl
told_more (Row input current next output) before = refl
told_more Nothing before = refl
told_more NoRow before = refl
told_more NoHeader before = refl

-- what is read after a line, by what is wrong with it
pub read_on : (before : List Said) (line : Entry) (lines : List Entry) (draft : Draft) (cause : Option KissFault) → draft ≡ told before → draft_fault draft line.number (said_by line.words) ≡ cause
    → read_after before (line ∷ lines) ≡ unless cause (read_after (said_by line.words ∷ before) lines)
unfolding read_after line_fault
read_on before line lines draft cause known wrong =
    let number = line.number in
    let statement = said_by line.words in
    let after : told (statement ∷ before) ≡ with_said statement draft = told_more statement before ∙ sym (ap (with_said statement) known) in
    ap (λ (d : Draft). unless (option_or (form_fault (told before) number statement) (limit_fault d)) (read_after (statement ∷ before) lines)) after
    ∙ ap (λ (d : Draft). unless (option_or (form_fault d number statement) (limit_fault (with_said statement draft))) (read_after (statement ∷ before) lines)) (sym known)
    ∙ ap (λ c. unless c (read_after (statement ∷ before) lines)) wrong

-- a draft has what the lines before some lines tell
abbrev pub Stands : Result Machine KissFault → List Entry → Draft → Type 0
Stands read lines draft = (before : List Said) × (draft ≡ told before) × (read ≡ read_after before lines)

pub stands_on : (read : Result Machine KissFault) (line : Entry) (lines : List Entry) (draft next : Draft) → Stands read (line ∷ lines) draft
    → draft_fault draft line.number (said_by line.words) ≡ None → next ≡ with_said (said_by line.words) draft → Stands read lines next
stands_on read line lines draft next (before, known, e) right is = (
  said_by line.words ∷ before,
  is ∙ ap (with_said (said_by line.words)) known ∙ sym (told_more (said_by line.words) before),
  e ∙ read_on before line lines draft None known right,
)

pub stands_wrong : (read : Result Machine KissFault) (line : Entry) (lines : List Entry) (draft : Draft) (fault : KissFault) → Stands read (line ∷ lines) draft
    → draft_fault draft line.number (said_by line.words) ≡ Some fault → read ≡ Err fault
stands_wrong read line lines draft fault (before, known, e) wrong = e ∙ read_on before line lines draft (Some fault) known wrong

pub stands_last : (read : Result Machine KissFault) (draft : Draft) → Stands read [] draft → read ≡ whole draft
unfolding read_after
stands_last read draft (before, known, e) = e ∙ ap whole (sym known)

-- The rows of a machine, as they are written, are read one after the other as they were.
use Rattle.std.proofs.Common.{◌≡◌, ℕ, ◌+◌, ◌<◌, ◌≤◌, nat_lt, true, false, Option, Some, None, List, [], ◌∷◌, ◌++◌, map, flat_map, take, length, refl, sym, ◌∙◌, ap, arith, length-append}
use Rattle.std.specs.List.{AllByRecursion, list_all, range_with_len}
use Rattle.std.proofs.lemmas.Bool.Decides.{nat_tests}
use Rattle.std.proofs.lemmas.List.{append_assoc, append-nil, length-map, length-take-le}
use Rattle.std.proofs.lemmas.List.FromFn.{length-range_with_len}
use Rattle.sis_base.specs.Written.{Written}
use Rattle.sis_text.specs.Entries.{Entry}
use Rattle.sis_text.specs.Written.{numbered}
use Rattle.circuit_model.specs.Text.{character}
use Rattle.circuit_model.specs.declared.circuit.Tri.{Tri}
use Rattle.circuit_model.specs.declared.circuit.Tri.TheVariants.{Zero, One, Free}
use Rattle.line_words.specs.LineWords.{long_name, character_of, is_character}
use Rattle.circuit_model.specs.MachineSoundness.{IsShaped, mentioned_by, first_mentions}
use Rattle.circuit_model.specs.MachineText.{state_at, state_word, row_line}
use Rattle.circuit_model.specs.declared.machine.Machine.{Machine}
use Rattle.circuit_model.specs.declared.machine.MachineRow.{MachineRow}
use Rattle.kiss_format.specs.Keywords.{keyword_of}
use Rattle.kiss_format.specs.Statements.{Said, Row, said_by}
use Rattle.kiss_format.specs.Lines.{first_of, told, long_fault, is_wide, form_fault, limit_fault}
use Rattle.kiss_format.specs.Reader.{whole}
use Rattle.kiss_format.specs.Steps.{with_said}
use Rattle.kiss_format.specs.Trips.{IsWithinLimits}
use Rattle.kiss_format.specs.declared.keyword.Keyword.TheVariants as kind
use Rattle.kiss_format.specs.declared.draft.Draft.{Draft}
use Rattle.kiss_format.proofs.Mentions.{same_test}
use Rattle.kiss_format.proofs.NamedStates.{AreNamed, RowStepped, row_stepped, state_has}
use Rattle.kiss_format.proofs.Told.{read_after, told_more, read_on}
use Rattle.sis_base.specs.declared.limits.TheConstants.{MAX_MACHINE_ROWS, MAX_NAME, MAX_STATES}

-- a written line as an entry
abbrev pub entry : ℕ → Written → Entry
entry number line = record { number = number; words = line.first ∷ line.others }

-- characters

characters_back : (row : List Tri) → map character_of (map character row) ≡ row
characters_back [] = refl
characters_back (Zero ∷ row) = ap (λ rest. Zero ∷ rest) (characters_back row)
characters_back (One ∷ row) = ap (λ rest. One ∷ rest) (characters_back row)
characters_back (Free ∷ row) = ap (λ rest. Free ∷ rest) (characters_back row)

pub characters_pass : (row : List Tri) → list_all is_character (map character row) ≡ true
characters_pass [] = refl
characters_pass (Zero ∷ row) = characters_pass row
characters_pass (One ∷ row) = characters_pass row
characters_pass (Free ∷ row) = characters_pass row

characters_kind : (place : Tri) (row : List Tri) → keyword_of (map character (place ∷ row)) ≡ kind.Row
unfolding keyword_of
characters_kind Zero row = refl
characters_kind One row = refl
characters_kind Free row = refl

pub row_kind : (row : List Tri) → 1 ≤ length row → keyword_of (map character row) ≡ kind.Row
row_kind [] some = absurd (omega (arith, some))
row_kind (place ∷ row) some = characters_kind place row

pub cube_wide : (row : List Tri) (width : ℕ) → length row ≡ width → is_wide (Some width) (map character row) ≡ true
cube_wide row width e = same_test (length (map character row)) width (length-map row character ∙ e)

-- names

short_test : (len : ℕ) → len ≤ MAX_NAME → nat_lt MAX_NAME len ≡ false
short_test len few = grind (arith, nat_tests)

pub not_long : (names : List (List ℕ)) → AllByRecursion (λ (name : List ℕ). length name ≤ MAX_NAME) names → long_fault names ≡ None
unfolding long_name
not_long [] short = refl
not_long (name ∷ names) short = rw (short_test (length name) short.0) (not_long names short.1)

word_short : (states : List (List ℕ)) (mention : Option ℕ) → AllByRecursion (λ (state : List ℕ). length state ≤ MAX_NAME) states → ((place : ℕ) → mention ≡ Some place → place < length states) → length (state_word states mention) ≤ MAX_NAME
word_short states None short within = omega arith
word_short states (Some place) short within = state_has (λ (state : List ℕ). length state ≤ MAX_NAME) states place short (within place refl)

-- the draft after the lines before the rows and some rows, if so many states are known
abbrev pub draft_at : Machine → ℕ → List MachineRow → Draft
draft_at machine count done = record {
  inputs = Some (length machine.inputs);
  outputs = Some (length machine.outputs);
  reset = Some (state_at machine.states machine.reset);
  states = take count machine.states;
  rows = done;
}

-- a line without a fault
pub passes : (before : List Said) (line : Entry) (lines : List Entry) (draft : Draft) (statement : Said) → told before ≡ draft → said_by line.words ≡ statement
    → form_fault draft line.number statement ≡ None → limit_fault (with_said statement draft) ≡ None → read_after before (line ∷ lines) ≡ read_after (statement ∷ before) lines
passes before line lines draft statement known says right small =
    read_on before line lines draft None (sym known) (rw (says, right, small) refl)
    ∙ ap (λ (one : Said). read_after (one ∷ before) lines) says

rows_test : (rows : ℕ) → rows ≤ MAX_MACHINE_ROWS → nat_lt MAX_MACHINE_ROWS rows ≡ false
rows_test rows few = grind (arith, nat_tests)

states_test : (states : ℕ) → states ≤ MAX_STATES → nat_lt MAX_STATES states ≡ false
states_test states few = grind (arith, nat_tests)

pub no_limit : (draft : Draft) → length draft.rows ≤ MAX_MACHINE_ROWS → length draft.states ≤ MAX_STATES → limit_fault draft ≡ None
unfolding limit_fault first_of
no_limit draft rows states = rw (rows_test (length draft.rows) rows, states_test (length draft.states) states) refl

-- the words of a row that is written
abbrev words_of : Machine → MachineRow → List (List ℕ)
words_of machine row = map character row.input ∷ state_word machine.states row.current ∷ state_word machine.states row.next ∷ map character row.output ∷ []

-- its statement
abbrev statement_of : Machine → MachineRow → Said
statement_of machine row = Row (map character row.input) (state_word machine.states row.current) (state_word machine.states row.next) (map character row.output)

row_says : (machine : Machine) (row : MachineRow) → IsShaped machine row → 1 ≤ length machine.inputs → said_by (words_of machine row) ≡ statement_of machine row
unfolding said_by
row_says machine row shaped some =
    let kind = row_kind row.input (let width = shaped.input in omega (arith, width, some)) in
    rw (kind, characters_pass row.input, characters_pass row.output) refl

row_right : (machine : Machine) (row : MachineRow) (done : List MachineRow) (count number : ℕ) → IsShaped machine row
    → AllByRecursion (λ (name : List ℕ). length name ≤ MAX_NAME) (state_word machine.states row.current ∷ state_word machine.states row.next ∷ [])
    → form_fault (draft_at machine count done) number (statement_of machine row) ≡ None
unfolding form_fault first_of
row_right machine row done count number shaped short =
    rw (cube_wide row.input (length machine.inputs) shaped.input, cube_wide row.output (length machine.outputs) shaped.output, not_long (state_word machine.states row.current ∷ state_word machine.states row.next ∷ []) short) refl

-- the draft with the row
row_added : (machine : Machine) (row : MachineRow) (done : List MachineRow) (count last : ℕ) (more : List ℕ) → RowStepped machine.states count row.current row.next more last
    → with_said (statement_of machine row) (draft_at machine count done) ≡ draft_at machine last (done ++ row ∷ [])
row_added machine row done count last more step =
    rw (step.words, characters_back row.input, characters_back row.output, step.first, step.second) refl

numbers_same : (count total : ℕ) → range_with_len 0 count ≡ range_with_len 0 total → count ≡ total
numbers_same count total e = sym (length-range_with_len 0 count) ∙ (ap length e ∙ length-range_with_len 0 total)

pub rows_read : (machine : Machine) (rows done : List MachineRow) (count number : ℕ) (before : List Said) → told before ≡ draft_at machine count done → AreNamed machine.states → IsWithinLimits machine → 1 ≤ length machine.inputs
    → AllByRecursion (IsShaped machine) rows → count ≤ length machine.states → first_mentions (range_with_len 0 count) (flat_map mentioned_by rows) ≡ range_with_len 0 (length machine.states) → length done + length rows ≤ MAX_MACHINE_ROWS
    → read_after before (numbered number (map (row_line machine.states) rows)) ≡ whole (draft_at machine (length machine.states) (done ++ rows))
unfolding first_mentions numbered read_after row_line
rows_read machine [] done count number before known are limits some shaped most e few =
    ap whole known ∙ rw (numbers_same count (length machine.states) e, append-nil done) refl
rows_read machine (row ∷ rows) done count number before known are limits some shaped most e few =
    let states = machine.states in
    let (last, step) = row_stepped states count row.current row.next (flat_map mentioned_by rows) are most e in
    let statement = statement_of machine row in
    let draft = draft_at machine count done in
    let lines = numbered (number + 1) (map (row_line states) rows) in
    let short : AllByRecursion (λ (name : List ℕ). length name ≤ MAX_NAME) (state_word states row.current ∷ state_word states row.next ∷ []) =
    (word_short states row.current limits.short step.current_inside, (word_short states row.next limits.short step.next_inside, tt)) in
    let longer : length (done ++ row ∷ []) ≡ length done + 1 = length-append done (row ∷ []) in
    let len : length (take last states) ≡ last = length-take-le last states step.most in
    let added : with_said statement draft ≡ draft_at machine last (done ++ row ∷ []) = row_added machine row done count last (flat_map mentioned_by rows) step in
    let small : limit_fault (draft_at machine last (done ++ row ∷ [])) ≡ None =
    no_limit (draft_at machine last (done ++ row ∷ [])) (omega (arith, few, longer)) (let all = limits.states in let most = step.most in omega (arith, len, all, most)) in
    passes before (entry number (row_line states row)) lines draft statement known (row_says machine row shaped.0 some)
    (row_right machine row done count number shaped.0 short) (ap limit_fault added ∙ small)
    ∙ rows_read machine rows (done ++ row ∷ []) last (number + 1) (statement ∷ before) (told_more statement before ∙ ap (with_said statement) known ∙ added) are limits some shaped.1 step.most step.rest (omega (arith, few, longer))
    ∙ ap (λ all. whole (draft_at machine (length states) all)) (append_assoc done (row ∷ []) rows)

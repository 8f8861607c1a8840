-- What is read is sound.
use Rattle.std.proofs.Common.{◌≡◌, ℕ, suc, ◌+◌, ◌<◌, ◌≤◌, Bool, true, false, not, ◌&&◌, ◌||◌, ◌==◌, Option, Some, None, Result, Ok, Err, List, [], ◌∷◌, ◌++◌, take, length, codes, unwrap_or, bytes_eq, decimal, zero, IfOk, refl, sym, ◌∙◌, ap, subst, arith}
use Rattle.std.specs.List.{All, AllByRecursion, list_all, prefix_len}
use Rattle.std.specs.Option.{option_or}
use Rattle.std.proofs.lemmas.List.Elements.{recursion_from_All}
use Rattle.std.proofs.lemmas.List.FromFn.{length-map-range_with_len}
use Rattle.std.proofs.lemmas.List.Quantifiers.{position-Some}
use Rattle.sis_base.specs.Written.{is_word, is_word_byte, is_blank}
use Rattle.sis_text.specs.Entries.{Entry}
use Rattle.sis_text.specs.Order.{IsProper, IsWordOf, is_plain}
use Rattle.circuit_model.specs.Clashes.{first_clash}
use Rattle.circuit_model.specs.MachineSoundness.{IsSoundMachine, IsShaped, all_names}
use Rattle.circuit_model.specs.declared.machine.Clash.{Clash}
use Rattle.circuit_model.specs.declared.machine.Machine.{Machine}
use Rattle.circuit_model.specs.declared.machine.MachineRow.{MachineRow}
use Rattle.kiss_format.specs.Keywords.{before_end, kind_of, is_end_kind}
use Rattle.kiss_format.specs.Statements.{Said, said_by}
use Rattle.kiss_format.specs.Lines.{first_item, told, states_in, rows_in, form_fault, limit_fault, line_fault}
use Rattle.kiss_format.specs.Reader.{machine_with, reset_place, reset_name, by_clash, by_place, placed, at_place, whole, unless, read_machine_lines, Reads}
use Rattle.kiss_format.specs.Trips.{IsWithinLimits}
use Rattle.kiss_format.specs.declared.draft.Draft.{Draft}
use Rattle.kiss_format.specs.declared.fault.KissFault.{KissFault}
use Rattle.kiss_format.specs.declared.fault.KissFault.TheVariants.{RowClash, NoReset, NoRows}
use Rattle.sis_text.specs.declared.read_fault.ReadFault.{ReadFault}
use Rattle.sis_text.specs.declared.read_fault.ReadFault.TheVariants.{Fault, Memory}
use Rattle.kiss_format.proofs.Told.{read_after, all_after, told_more}
use Rattle.kiss_format.proofs.Drafts.{IsCount, OfWords, HasWidths, IsGood, IsShort, line_said, good_said, good_nothing}
use Rattle.kiss_format.proofs.Firsts.{currents}
use Rattle.kiss_format.proofs.Mentions.{all_append}
use Rattle.kiss_format.proofs.Ports.{made_are_words, made_are_short, ports_differ}
use Rattle.sis_base.specs.declared.limits.TheConstants.{MAX_PORTS}

-- a result without a fault
abbrev ok : {A : Type 0} → A → Result A KissFault
ok a = Ok a

same-ok : {A : Type 0} (a b : A) → ok a ≡ ok b → a ≡ b
same-ok a b e = cc

-- the parts of a machine that is read

abbrev OfClash : List MachineRow → Type 0
OfClash rows = first_clash rows ≡ None

clash_free : (clash : Option Clash) (place found : ℕ) → by_clash clash found ≡ Ok place → (clash ≡ None) × (found ≡ place)
clash_free None place found e = (refl, same-ok found place e)
clash_free (Some clash) place found e = absurd (let no : Err (RowClash (clash.earlier + 1) (clash.later + 1)) ≡ ok place = e in cc)

place_found : (found : Option ℕ) (reset : Option (List ℕ)) (rows : List MachineRow) (place : ℕ) → by_place found reset rows ≡ Ok place → (found ≡ Some place) × OfClash rows
place_found None reset rows place e = absurd (let no : Err (NoReset (reset_name reset)) ≡ ok place = e in cc)
place_found (Some found) reset rows place e =
    let parts = clash_free (first_clash rows) place found e in
    (ap Some parts.1, parts.0)

placed_parts : (reset : Option (List ℕ)) (states : List (List ℕ)) (rows : List MachineRow) (place : ℕ) → placed reset states rows ≡ Ok place
    → (1 ≤ length rows) × (reset_place reset states rows ≡ Some place) × OfClash rows
placed_parts reset states [] place e = absurd (let no : Err NoRows ≡ ok place = e in cc)
placed_parts reset states (row ∷ rows) place e =
    let parts = place_found (reset_place reset states (row ∷ rows)) reset (row ∷ rows) place e in
    (omega arith, parts.0, parts.1)

reset_within : (reset : Option (List ℕ)) (states : List (List ℕ)) (rows : List MachineRow) (place : ℕ) → ((k : ℕ) → first_item (currents rows) ≡ Some k → k < length states)
    → reset_place reset states rows ≡ Some place → place < length states
reset_within None states rows place within e = within place e
reset_within (Some name) states rows place within e = (position-Some (bytes_eq name) states place [] e).0

first_widths : (inputs outputs : Option ℕ) (rows : List MachineRow) → 1 ≤ length rows → AllByRecursion (HasWidths inputs outputs) rows → IsCount inputs → IsCount outputs
    → ((1 ≤ unwrap_or inputs 0) × (unwrap_or inputs 0 ≤ MAX_PORTS)) × ((1 ≤ unwrap_or outputs 0) × (unwrap_or outputs 0 ≤ MAX_PORTS))
first_widths inputs outputs [] some shaped few small = absurd (omega (arith, some))
first_widths None outputs (row ∷ rows) some shaped few small = absurd (let no : None ≡ Some (length row.input) = shaped.0.0 in cc)
first_widths (Some inputs) None (row ∷ rows) some shaped few small = absurd (let no : None ≡ Some (length row.output) = shaped.0.1 in cc)
first_widths (Some inputs) (Some outputs) (row ∷ rows) some shaped few small = (few, small)

rows_shaped : (machine : Machine) (inputs outputs : Option ℕ) (rows : List MachineRow) → length machine.inputs ≡ unwrap_or inputs 0 → length machine.outputs ≡ unwrap_or outputs 0
    → AllByRecursion (HasWidths inputs outputs) rows → AllByRecursion (IsShaped machine) rows
rows_shaped machine inputs outputs [] i o shaped = tt
rows_shaped machine inputs outputs (row ∷ rows) i o shaped = (
  record {
    input = sym (i ∙ ap (λ (told : Option ℕ). unwrap_or told 0) shaped.0.0);
    output = sym (o ∙ ap (λ (told : Option ℕ). unwrap_or told 0) shaped.0.1);
  },
  rows_shaped machine inputs outputs rows i o shaped.1,
)

-- a word is one that a text can have
abbrev pub IsText : List ℕ → Type 0
IsText word = is_word word ≡ true

sound_at : (draft : Draft) (place : ℕ) → IsGood IsText draft → placed draft.reset draft.states draft.rows ≡ Ok place → IsSoundMachine (machine_with draft.inputs draft.outputs draft.states draft.rows place)
unfolding is_word
sound_at draft place good e =
    let parts = placed_parts draft.reset draft.states draft.rows place e in
    let machine = machine_with draft.inputs draft.outputs draft.states draft.rows place in
    let inputs = unwrap_or draft.inputs 0 in
    let outputs = unwrap_or draft.outputs 0 in
    let counts = first_widths draft.inputs draft.outputs draft.rows parts.0 good.shaped good.inputs good.outputs in
    let ins : length machine.inputs ≡ inputs = length-map-range_with_len (λ k. codes "IN_" ++ decimal k) 0 inputs in
    let outs : length machine.outputs ≡ outputs = length-map-range_with_len (λ k. codes "OUT_" ++ decimal k) 0 outputs in
    let in_words = made_are_words (codes "IN_") 0 inputs refl (omega (arith, counts.0.1)) in
    let out_words = made_are_words (codes "OUT_") 0 outputs refl (omega (arith, counts.1.1)) in
    record {
      words = (refl, all_append IsText machine.inputs (machine.outputs ++ draft.states) in_words (all_append IsText machine.outputs draft.states out_words good.body.words));
      ports_once = ports_differ inputs outputs counts.0.1 counts.1.1;
      some_inputs = omega (arith, ins, counts.0.0);
      few_inputs = omega (arith, ins, counts.0.1);
      some_outputs = omega (arith, outs, counts.1.0);
      few_outputs = omega (arith, outs, counts.1.1);
      some_rows = parts.0;
      few_rows = let few = good.body.few in omega (arith, few);
      states_once = good.body.once;
      states_named = good.body.named;
      in_order = good.body.in_order;
      reset = reset_within draft.reset draft.states draft.rows place good.body.within parts.1;
      shaped = rows_shaped machine draft.inputs draft.outputs draft.rows ins outs good.shaped;
      apart = parts.2;
    }

-- what holds of the machine of each good draft
abbrev pub OfDrafts : OfWords → (Machine → Type 0) → Type 0
OfDrafts W P = (draft : Draft) (place : ℕ) → IsGood W draft → placed draft.reset draft.states draft.rows ≡ Ok place → P (machine_with draft.inputs draft.outputs draft.states draft.rows place)

at_parts : (P : Machine → Type 0) (r : Result ℕ KissFault) (make : ℕ → Machine) (machine : Machine) → at_place r make ≡ Ok machine → ((place : ℕ) → r ≡ Ok place → P (make place)) → P machine
at_parts P (Ok place) make machine e holds = subst P (same-ok (make place) machine e) (holds place refl)
at_parts P (Err fault) make machine e holds = absurd (let no : Err fault ≡ ok machine = e in cc)

draft_holds : (W : OfWords) (P : Machine → Type 0) (draft : Draft) (machine : Machine) → OfDrafts W P → IsGood W draft → whole draft ≡ Ok machine → P machine
unfolding whole
draft_holds W P draft machine holds good e =
    at_parts P (placed draft.reset draft.states draft.rows) (machine_with draft.inputs draft.outputs draft.states draft.rows) machine e (λ place at. holds draft place good at)

-- the words of lines

abbrev pub AreOf : OfWords → List Entry → Type 0
AreOf W lines = AllByRecursion (λ (line : Entry). AllByRecursion W line.words) lines

abbrev pub AreOfWords : List Entry → Type 0
AreOfWords lines = AreOf IsText lines

all_taken : {A : Type 0} (P : A → Type 0) (count : ℕ) (xs : List A) → AllByRecursion P xs → AllByRecursion P (take count xs)
all_taken P zero xs h = tt
all_taken P (suc count) [] h = tt
all_taken P (suc count) (x ∷ xs) h = (h.0, all_taken P count xs h.1)

lines_hold : (W : OfWords) (P : Machine → Type 0) (lines : List Entry) (before : List Said) (machine : Machine) → OfDrafts W P → IsGood W (told before) → AreOf W lines → read_after before lines ≡ Ok machine → P machine
unfolding read_after line_fault
lines_hold W P [] before machine holds good are e = draft_holds W P (told before) machine holds good e
lines_hold W P (line ∷ lines) before machine holds good are e =
    let number = line.number in
    let statement = said_by line.words in
    let more = told_more statement before in
    by (form_fault (told before) number statement) (limit_fault (told (statement ∷ before))) e refl refl
    (λ right small. lines_hold W P lines (statement ∷ before) machine holds (subst (IsGood W) (sym more) (good_said W statement (told before) number good (line_said W line.words are.0) right (ap limit_fault (sym more) ∙ small))) are.1)
  where
    by : (a b : Option KissFault) → unless (option_or a b) (read_after (said_by line.words ∷ before) lines) ≡ Ok machine → form_fault (told before) line.number (said_by line.words) ≡ a → limit_fault (told (said_by line.words ∷ before)) ≡ b
        → (form_fault (told before) line.number (said_by line.words) ≡ None → limit_fault (told (said_by line.words ∷ before)) ≡ None → read_after (said_by line.words ∷ before) lines ≡ Ok machine → P machine) → P machine
    by None None e right small rec = rec right small e
    by None (Some fault) e right small rec = absurd (let no : Err fault ≡ ok machine = e in cc)
    by (Some fault) b e right small rec = absurd (let no : Err fault ≡ ok machine = e in cc)

pub read_holds : (W : OfWords) (P : Machine → Type 0) (lines : List Entry) (machine : Machine) → OfDrafts W P → AreOf W lines → read_machine_lines lines ≡ Ok machine → P machine
unfolding read_machine_lines before_end told states_in rows_in
read_holds W P lines machine holds are e =
    lines_hold W P (before_end lines) [] machine holds (good_nothing W)
    (all_taken (λ (line : Entry). AllByRecursion W line.words) (prefix_len (λ line. not (is_end_kind (kind_of line))) lines) lines are) (sym (all_after (before_end lines)) ∙ e)

-- what holds of what is read, whatever the words

abbrev IsAny : List ℕ → Type 0
IsAny word = Unit {0}

any_words : (words : List (List ℕ)) → AllByRecursion IsAny words
any_words [] = tt
any_words (word ∷ words) = (tt, any_words words)

any_lines : (lines : List Entry) → AreOf IsAny lines
any_lines [] = tt
any_lines (line ∷ lines) = (any_words line.words, any_lines lines)

pub read_limited : (lines : List Entry) (machine : Machine) → read_machine_lines lines ≡ Ok machine → IsWithinLimits machine
read_limited lines machine e =
    read_holds IsAny IsWithinLimits lines machine (λ draft place good at. record { rows = good.body.few; states = good.body.limited; short = good.body.short }) (any_lines lines) e

short_at : (draft : Draft) (place : ℕ) → IsGood IsAny draft → placed draft.reset draft.states draft.rows ≡ Ok place → AllByRecursion IsShort (all_names (machine_with draft.inputs draft.outputs draft.states draft.rows place))
short_at draft place good e =
    let parts = placed_parts draft.reset draft.states draft.rows place e in
    let machine = machine_with draft.inputs draft.outputs draft.states draft.rows place in
    let counts = first_widths draft.inputs draft.outputs draft.rows parts.0 good.shaped good.inputs good.outputs in
    let ins = made_are_short (codes "IN_") 0 (unwrap_or draft.inputs 0) (omega arith) (omega (arith, counts.0.1)) in
    let outs = made_are_short (codes "OUT_") 0 (unwrap_or draft.outputs 0) (omega arith) (omega (arith, counts.1.1)) in
    (omega arith, all_append IsShort machine.inputs (machine.outputs ++ draft.states) ins (all_append IsShort machine.outputs draft.states outs good.body.short))

pub read_short : (lines : List Entry) (machine : Machine) → read_machine_lines lines ≡ Ok machine → AllByRecursion IsShort (all_names machine)
read_short lines machine e = read_holds IsAny (λ (one : Machine). AllByRecursion IsShort (all_names one)) lines machine short_at (any_lines lines) e

pub read_sound : (lines : List Entry) (machine : Machine) → AreOfWords lines → read_machine_lines lines ≡ Ok machine → IsSoundMachine machine
read_sound lines machine are e = read_holds IsText IsSoundMachine lines machine sound_at are e

pub all_weaker : {A : Type 0} (P Q : A → Type 0) (xs : List A) → ((x : A) → P x → Q x) → AllByRecursion P xs → AllByRecursion Q xs
all_weaker P Q [] f h = tt
all_weaker P Q (x ∷ xs) f h = (f x h.0, all_weaker P Q xs f h.1)

all_pass : (test : ℕ → Bool) (bytes : List ℕ) → AllByRecursion (λ byte. test byte ≡ true) bytes → list_all test bytes ≡ true
all_pass test [] h = refl
all_pass test (byte ∷ bytes) h = rw (h.0, all_pass test bytes h.1) refl

pub plain_byte : (byte : ℕ) → is_plain byte ≡ true → is_word_byte byte ≡ true
plain_byte byte h = by (is_blank byte) (byte == 10) (byte == 35) h
  where
    by : (a b c : Bool) → (not a && (not b && not c)) ≡ true → not (a || b || c) ≡ true
    by true b c e = e
    by false true c e = e
    by false false c e = e

plain_word : (word : List ℕ) → IsWordOf is_plain word → is_word word ≡ true
unfolding is_word
plain_word [] p = absurd (let none : 0 < 0 = p.some in omega arith)
plain_word (byte ∷ bytes) p =
    all_pass is_word_byte (byte ∷ bytes)
    (all_weaker (λ b. is_plain b ≡ true) (λ b. is_word_byte b ≡ true) (byte ∷ bytes) plain_byte (recursion_from_All (λ b. is_plain b ≡ true) (byte ∷ bytes) p.passes))

pub proper_lines : (lines : List Entry) → All (IsProper is_plain) lines → AreOfWords lines
proper_lines lines proper =
    all_weaker (IsProper is_plain) (λ (line : Entry). AllByRecursion IsText line.words) lines
    (λ line p. all_weaker (IsWordOf is_plain) (λ word. is_word word ≡ true) line.words plain_word (recursion_from_All (IsWordOf is_plain) line.words p.each))
    (recursion_from_All (IsProper is_plain) lines proper)

pub reads_sound : (result : Result Machine (ReadFault KissFault)) (lines : List Entry) → All (IsProper is_plain) lines → Reads result (read_machine_lines lines) → IfOk result (λ machine. IsSoundMachine machine)
reads_sound (Ok machine) lines proper reads = read_sound lines machine (proper_lines lines proper) reads
reads_sound (Err (Fault fault)) lines proper reads = tt
reads_sound (Err Memory) lines proper reads = tt

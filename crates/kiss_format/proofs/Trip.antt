-- The text of a machine is read as that machine, with made names for itself and its ports.
use Rattle.std.proofs.Common.{◌≡◌, ℕ, ◌+◌, ◌<◌, ◌≤◌, ◌^◌, true, false, not, Option, Some, None, Ok, List, [], ◌∷◌, ◌++◌, map, flat_map, take, length, cond, codes, decimal, unwrap_or, refl, sym, ◌∙◌, ap, arith}
use Rattle.std.specs.List.{All, AllByRecursion, list_all, range_with_len}
use Rattle.std.proofs.lemmas.List.{take_all}
use Rattle.std.proofs.lemmas.List.Elements.{All-from_recursion}
use Rattle.std.proofs.lemmas.List.FromFn.{length-map-range_with_len}
use Rattle.std.proofs.lemmas.List.Sums.{take_while-cons}
use Rattle.sis_base.specs.Written.{Written, is_word, is_word_byte}
use Rattle.sis_text.specs.Entries.{Entry, entries_of}
use Rattle.sis_text.specs.Written.{IsLineOfWords, numbered}
use Rattle.sis_text.proofs.ProperEntries.{lines_proper}
use Rattle.sis_text.proofs.Readback.{read_back}
use Rattle.circuit_model.specs.Text.{dotted, character}
use Rattle.circuit_model.specs.declared.circuit.Tri.{Tri}
use Rattle.circuit_model.specs.declared.circuit.Tri.TheVariants.{Zero, One, Free}
use Rattle.circuit_model.specs.Clashes.{first_clash}
use Rattle.circuit_model.specs.MachineSoundness.{IsSoundMachine, IsShaped, mentioned_by, first_mentions}
use Rattle.circuit_model.specs.MachineText.{state_at, state_word, row_line, header_lines, machine_lines, machine_text_of}
use Rattle.circuit_model.specs.declared.machine.Machine.{Machine}
use Rattle.circuit_model.specs.declared.machine.MachineRow.{MachineRow}
use Rattle.kiss_format.specs.Keywords.{keyword_of, kind_of, is_end_kind, before_end}
use Rattle.kiss_format.specs.Statements.{Said, Inputs, Outputs, Reset, Nothing, said_by}
use Rattle.kiss_format.specs.Lines.{first_of, place_of, told, states_in, rows_in, form_fault, limit_fault}
use Rattle.kiss_format.specs.Reader.{made_names, machine_with, placed, whole, read_all, read_machine_lines}
use Rattle.kiss_format.specs.Trips.{IsWithinLimits, plainly_named}
use Rattle.kiss_format.specs.declared.keyword.Keyword.{Keyword}
use Rattle.kiss_format.specs.declared.keyword.Keyword.TheVariants as kind
use Rattle.kiss_format.specs.declared.draft.Draft.{Draft}
use Rattle.kiss_format.proofs.Told.{read_after, all_after}
use Rattle.kiss_format.proofs.Mentions.{all_append}
use Rattle.kiss_format.proofs.NamedStates.{AreNamed, row_stepped, place_back, state_has}
use Rattle.kiss_format.proofs.Numerals.{count_back, decimal_is_word}
use Rattle.kiss_format.proofs.Sound.{IsText, AreOfWords, read_holds, read_limited, read_sound, proper_lines, all_weaker}
use Rattle.kiss_format.proofs.WrittenRows.{entry, row_kind, not_long, draft_at, passes, no_limit, rows_read}
use Rattle.sis_base.specs.declared.limits.TheConstants.{MAX_NAME}

-- the lines before the end

passed : (line : Entry) (rest : List Entry) (kind : Keyword) → kind_of line ≡ kind → is_end_kind kind ≡ false → before_end (line ∷ rest) ≡ line ∷ before_end rest
unfolding before_end
passed line rest kind k goes =
    take_while-cons (λ (one : Entry). not (is_end_kind (kind_of one))) line rest
    ∙ ap (λ (one : Keyword). cond (not (is_end_kind one)) (line ∷ before_end rest) []) k
    ∙ ap (λ b. cond (not b) (line ∷ before_end rest) []) goes

end_stops : (number : ℕ) → before_end (entry number (dotted (codes ".e") []) ∷ []) ≡ []
unfolding before_end kind_of keyword_of
end_stops number = take_while-cons (λ (one : Entry). not (is_end_kind (kind_of one))) (entry number (dotted (codes ".e") [])) []

rows_before : (machine : Machine) (rows : List MachineRow) (number : ℕ) → 1 ≤ length machine.inputs → AllByRecursion (IsShaped machine) rows
    → before_end (numbered number (map (row_line machine.states) rows ++ dotted (codes ".e") [] ∷ [])) ≡ numbered number (map (row_line machine.states) rows)
unfolding numbered row_line kind_of
rows_before machine [] number some shaped = end_stops number
rows_before machine (row ∷ rows) number some shaped =
    let rest = numbered (number + 1) (map (row_line machine.states) rows ++ dotted (codes ".e") [] ∷ []) in
    passed (entry number (row_line machine.states row)) rest kind.Row (row_kind row.input (let width = shaped.0.input in omega (arith, width, some))) refl
    ∙ ap (λ more. entry number (row_line machine.states row) ∷ more) (rows_before machine rows (number + 1) some shaped.1)

-- the lines before the rows

abbrev inputs_line : Machine → Entry
inputs_line machine = entry 1 (dotted (codes ".i") (decimal (length machine.inputs) ∷ []))

abbrev outputs_line : Machine → Entry
outputs_line machine = entry 2 (dotted (codes ".o") (decimal (length machine.outputs) ∷ []))

abbrev products_line : Machine → Entry
products_line machine = entry 3 (dotted (codes ".p") (decimal (length machine.rows) ∷ []))

abbrev states_line : Machine → Entry
states_line machine = entry 4 (dotted (codes ".s") (decimal (length machine.states) ∷ []))

abbrev reset_line : Machine → Entry
reset_line machine = entry 5 (dotted (codes ".r") (state_at machine.states machine.reset ∷ []))

abbrev row_lines : Machine → List Entry
row_lines machine = numbered 6 (map (row_line machine.states) machine.rows)

abbrev lines_of : Machine → List Entry
lines_of machine = inputs_line machine ∷ outputs_line machine ∷ products_line machine ∷ states_line machine ∷ reset_line machine ∷ row_lines machine

front_is : (machine : Machine) → IsSoundMachine machine → before_end (numbered 1 (machine_lines machine)) ≡ lines_of machine
unfolding machine_lines header_lines numbered kind_of keyword_of
front_is machine sound =
    let rows = numbered 6 (map (row_line machine.states) machine.rows ++ dotted (codes ".e") [] ∷ []) in
    passed (inputs_line machine) (outputs_line machine ∷ products_line machine ∷ states_line machine ∷ reset_line machine ∷ rows) kind.Inputs refl refl
    ∙ ap (λ more. inputs_line machine ∷ more) (passed (outputs_line machine) (products_line machine ∷ states_line machine ∷ reset_line machine ∷ rows) kind.Outputs refl refl
    ∙ ap (λ more. outputs_line machine ∷ more) (passed (products_line machine) (states_line machine ∷ reset_line machine ∷ rows) kind.Products refl refl
    ∙ ap (λ more. products_line machine ∷ more) (passed (states_line machine) (reset_line machine ∷ rows) kind.States refl refl
    ∙ ap (λ more. states_line machine ∷ more) (passed (reset_line machine) rows kind.Reset refl refl
    ∙ ap (λ more. reset_line machine ∷ more) (rows_before machine machine.rows 6 sound.some_inputs sound.shaped)))))

-- what they say

abbrev header_statements : Machine → List Said
header_statements machine = Reset (state_at machine.states machine.reset) ∷ Nothing ∷ Nothing ∷ Outputs (length machine.outputs) ∷ Inputs (length machine.inputs) ∷ []

headers_read : (machine : Machine) → IsSoundMachine machine → IsWithinLimits machine → (lines : List Entry)
    → read_after [] (inputs_line machine ∷ outputs_line machine ∷ products_line machine ∷ states_line machine ∷ reset_line machine ∷ lines) ≡ read_after (header_statements machine) lines
unfolding said_by keyword_of form_fault first_of told states_in rows_in
headers_read machine sound limits lines =
    let inputs = length machine.inputs in
    let outputs = length machine.outputs in
    let name = state_at machine.states machine.reset in
    let in_back = count_back inputs sound.some_inputs sound.few_inputs in
    let out_back = count_back outputs sound.some_outputs sound.few_outputs in
    let free = not_long (name ∷ []) (state_has (λ (state : List ℕ). length state ≤ MAX_NAME) machine.states machine.reset limits.short sound.reset, tt) in
    let ports : List Said = Outputs outputs ∷ Inputs inputs ∷ [] in
    let small : (before : List Said) → length (told before).rows ≡ 0 → length (told before).states ≡ 0 → limit_fault (told before) ≡ None = λ before rows states. no_limit (told before) (omega (arith, rows)) (omega (arith, states)) in
    passes [] (inputs_line machine) (outputs_line machine ∷ products_line machine ∷ states_line machine ∷ reset_line machine ∷ lines) (told []) (Inputs inputs) refl (rw in_back refl) refl (small (Inputs inputs ∷ []) refl refl)
    ∙ passes (Inputs inputs ∷ []) (outputs_line machine) (products_line machine ∷ states_line machine ∷ reset_line machine ∷ lines) (told (Inputs inputs ∷ [])) (Outputs outputs) refl (rw out_back refl) refl (small ports refl refl)
    ∙ passes ports (products_line machine) (states_line machine ∷ reset_line machine ∷ lines) (told ports) Nothing refl refl refl (small ports refl refl)
    ∙ passes (Nothing ∷ ports) (states_line machine) (reset_line machine ∷ lines) (told ports) Nothing refl refl refl (small ports refl refl)
    ∙ passes (Nothing ∷ Nothing ∷ ports) (reset_line machine) lines (told ports) (Reset name) refl refl (rw free refl) (small (header_statements machine) refl refl)

-- the whole

placed_back : (name : List ℕ) (states : List (List ℕ)) (rows : List MachineRow) (place : ℕ) → 1 ≤ length rows → place_of states name ≡ Some place → first_clash rows ≡ None → placed (Some name) states rows ≡ Ok place
placed_back name states [] place some at apart = absurd (omega (arith, some))
placed_back name states (row ∷ rows) place some at apart = rw (at, apart) refl

finished_back : (machine : Machine) → IsSoundMachine machine → whole (draft_at machine (length machine.states) machine.rows) ≡ Ok (plainly_named machine)
unfolding whole
finished_back machine sound =
    let all : take (length machine.states) machine.states ≡ machine.states = take_all (length machine.states) machine.states (omega arith) in
    let name = state_at machine.states machine.reset in
    let at : place_of machine.states name ≡ Some machine.reset =
    ap (λ states. place_of states name) (sym all) ∙ place_back machine.states (length machine.states) machine.reset sound.states_once sound.reset sound.reset in
    rw (all, placed_back name machine.states machine.rows machine.reset sound.some_rows at sound.apart) refl

lines_read : (machine : Machine) → IsSoundMachine machine → IsWithinLimits machine → read_machine_lines (numbered 1 (machine_lines machine)) ≡ Ok (plainly_named machine)
unfolding read_machine_lines told states_in rows_in
lines_read machine sound limits =
    let are : AreNamed machine.states = record { once = sound.states_once; named = sound.states_named } in
    ap read_all (front_is machine sound)
    ∙ all_after (inputs_line machine ∷ outputs_line machine ∷ products_line machine ∷ states_line machine ∷ reset_line machine ∷ row_lines machine)
    ∙ headers_read machine sound limits (row_lines machine)
    ∙ rows_read machine machine.rows [] 0 6 (header_statements machine) refl are limits sound.some_inputs sound.shaped (omega arith) sound.in_order (let few = limits.rows in omega (arith, few))
    ∙ finished_back machine sound

-- the lines are made of words

abbrev IsName : List ℕ → Type 0
IsName name = is_word name ≡ true

abbrev HasWords : Written → Type 0
HasWords line = AllByRecursion IsName (line.first ∷ line.others)

pub characters_plain : (row : List Tri) → list_all is_word_byte (map character row) ≡ true
characters_plain [] = refl
characters_plain (Zero ∷ row) = characters_plain row
characters_plain (One ∷ row) = characters_plain row
characters_plain (Free ∷ row) = characters_plain row

cube_is_word : (row : List Tri) → 1 ≤ length row → is_word (map character row) ≡ true
unfolding is_word
cube_is_word [] some = absurd (omega (arith, some))
cube_is_word (place ∷ row) some = characters_plain (place ∷ row)

state_is_word : (states : List (List ℕ)) (mention : Option ℕ) → AllByRecursion IsName states → ((place : ℕ) → mention ≡ Some place → place < length states) → is_word (state_word states mention) ≡ true
unfolding is_word
state_is_word states None words within = refl
state_is_word states (Some place) words within = state_has IsName states place words (within place refl)

row_words : (machine : Machine) (row : MachineRow) → IsShaped machine row → 1 ≤ length machine.inputs → 1 ≤ length machine.outputs
    → IsName (state_word machine.states row.current) → IsName (state_word machine.states row.next) → HasWords (row_line machine.states row)
unfolding row_line
row_words machine row shaped some any current next =
    let input : 1 ≤ length row.input = let width = shaped.input in omega (arith, width, some) in
    let output : 1 ≤ length row.output = let width = shaped.output in omega (arith, width, any) in
    (cube_is_word row.input input, (current, (next, (cube_is_word row.output output, tt))))

rows_words : (machine : Machine) (rows : List MachineRow) (count : ℕ) → IsSoundMachine machine → AllByRecursion IsName machine.states → AllByRecursion (IsShaped machine) rows → count ≤ length machine.states
    → first_mentions (range_with_len 0 count) (flat_map mentioned_by rows) ≡ range_with_len 0 (length machine.states) → AllByRecursion HasWords (map (row_line machine.states) rows)
rows_words machine [] count sound names shaped most e = tt
rows_words machine (row ∷ rows) count sound names shaped most e =
    let are : AreNamed machine.states = record { once = sound.states_once; named = sound.states_named } in
    let (last, step) = row_stepped machine.states count row.current row.next (flat_map mentioned_by rows) are most e in
    let current = state_is_word machine.states row.current names step.current_inside in
    let next = state_is_word machine.states row.next names step.next_inside in
    (row_words machine row shaped.0 sound.some_inputs sound.some_outputs current next, rows_words machine rows last sound names shaped.1 step.most step.rest)

all_behind : {A : Type 0} (P : A → Type 0) (xs ys : List A) → AllByRecursion P (xs ++ ys) → AllByRecursion P ys
all_behind P [] ys h = h
all_behind P (x ∷ xs) ys h = all_behind P xs ys h.1

state_names : (machine : Machine) → IsSoundMachine machine → AllByRecursion IsName machine.states
state_names machine sound =
    all_behind IsName machine.outputs machine.states (all_behind IsName machine.inputs (machine.outputs ++ machine.states) sound.words.1)

number_words : (first : List ℕ) (count : ℕ) → is_word first ≡ true → count < 2 ^ 64 → HasWords (dotted first (decimal count ∷ []))
number_words first count word few = (word, (decimal_is_word count few, tt))

lines_words : (machine : Machine) → IsSoundMachine machine → IsWithinLimits machine → AllByRecursion HasWords (machine_lines machine)
unfolding machine_lines header_lines is_word
lines_words machine sound limits =
    let names = state_names machine sound in
    let few = sound.few_inputs in
    let small = sound.few_outputs in
    let rows = limits.rows in
    let states = limits.states in
    let reset : IsName (state_at machine.states machine.reset) = state_has IsName machine.states machine.reset names sound.reset in
    let of_rows = rows_words machine machine.rows 0 sound names sound.shaped (omega arith) sound.in_order in (
      number_words (codes ".i") (length machine.inputs) refl (omega (arith, few)),
      (
        number_words (codes ".o") (length machine.outputs) refl (omega (arith, small)),
        (
          number_words (codes ".p") (length machine.rows) refl (omega (arith, rows)),
          (
            number_words (codes ".s") (length machine.states) refl (omega (arith, states)),
            (
              (refl, (reset, tt)),
              all_append HasWords (map (row_line machine.states) machine.rows) (dotted (codes ".e") [] ∷ []) of_rows ((refl, tt), tt),
            ),
          ),
        ),
      ),
    )

lines_written : (machine : Machine) → IsSoundMachine machine → IsWithinLimits machine → All IsLineOfWords (machine_lines machine)
lines_written machine sound limits =
    All-from_recursion IsLineOfWords (machine_lines machine)
    (all_weaker HasWords IsLineOfWords (machine_lines machine) (λ line words. All-from_recursion IsName (line.first ∷ line.others) words) (lines_words machine sound limits))

pub text_read : (machine : Machine) → IsSoundMachine machine → IsWithinLimits machine → read_machine_lines (entries_of (machine_text_of machine)) ≡ Ok (plainly_named machine)
unfolding machine_text_of
text_read machine sound limits =
    ap read_machine_lines (read_back (machine_lines machine) (lines_written machine sound limits)) ∙ lines_read machine sound limits

-- what is read

names_kept : (draft : Draft) (place : ℕ) → plainly_named (machine_with draft.inputs draft.outputs draft.states draft.rows place) ≡ machine_with draft.inputs draft.outputs draft.states draft.rows place
names_kept draft place =
    let ins : length (made_names (codes "IN_") (unwrap_or draft.inputs 0)) ≡ unwrap_or draft.inputs 0 = length-map-range_with_len (λ k. codes "IN_" ++ decimal k) 0 (unwrap_or draft.inputs 0) in
    let outs : length (made_names (codes "OUT_") (unwrap_or draft.outputs 0)) ≡ unwrap_or draft.outputs 0 = length-map-range_with_len (λ k. codes "OUT_" ++ decimal k) 0 (unwrap_or draft.outputs 0) in
    rw (ins, outs) refl

read_plain : (lines : List Entry) (machine : Machine) → AreOfWords lines → read_machine_lines lines ≡ Ok machine → plainly_named machine ≡ machine
read_plain lines machine are e = read_holds IsText (λ one. plainly_named one ≡ one) lines machine (λ draft place good at. names_kept draft place) are e

pub read_again : (source : List ℕ) (machine : Machine) → read_machine_lines (entries_of source) ≡ Ok machine → read_machine_lines (entries_of (machine_text_of machine)) ≡ Ok machine
read_again source machine e =
    let lines = entries_of source in
    let are = proper_lines lines (lines_proper source) in
    text_read machine (read_sound lines machine are e) (read_limited lines machine e) ∙ ap (λ one. Ok one) (read_plain lines machine are e)

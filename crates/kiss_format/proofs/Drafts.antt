-- What holds of a draft, statement by statement: its counts are small, its states are different, in
-- the order in which rows name them, and what holds of each word of the lines holds of them; its
-- rows are shaped.
use Rattle.std.proofs.Common.{◌≡◌, ℕ, ◌+◌, ◌-◌, ◌*◌, ◌<◌, ◌≤◌, ◌==◌, nat_lt, nat_le, Bool, true, false, not, ◌&&◌, ◌||◌, Option, Some, None, List, [], ◌∷◌, ◌++◌, map, flat_map, length, bytes_eq, cond, find, refl, sym, ◌∙◌, ap, arith, if◌then◌else◌}
use Rattle.std.specs.List.{AllByRecursion, list_all, fold, range_with_len}
use Rattle.std.specs.Option.{option_map, option_or}
use Rattle.std.proofs.lemmas.Bool.Decides.{nat_tests}
use Rattle.std.proofs.lemmas.Grind.{flat_map-append}
use Rattle.std.proofs.lemmas.List.{append-nil, length-map}
use Rattle.std.proofs.lemmas.List.Elements.{filter_map-append}
use Rattle.std.proofs.lemmas.List.Quantifiers.{position-Some}
use Rattle.std.proofs.lemmas.Bool.{and_parts}
use Rattle.circuit_model.specs.Names.{all_different}
use Rattle.sis_text.specs.Words.{begins_with}
use Rattle.sis_text.specs.Decimals.{is_digit, number_of}
use Rattle.line_words.specs.LineWords.{first_word, other_words, long_name, character_of, is_character}
use Rattle.circuit_model.specs.MachineSoundness.{is_any, mentioned_by, first_mentions}
use Rattle.circuit_model.specs.declared.machine.MachineRow.{MachineRow}
use Rattle.kiss_format.specs.Keywords.{keyword_of}
use Rattle.kiss_format.specs.Statements.{Said, Inputs, Outputs, Reset, Row, Nothing, NoRow, NoHeader, is_numeral, count_of, count_in, of_count, of_word, of_reset, of_row, said_as, said_by}
use Rattle.kiss_format.specs.Lines.{when, first_of, is_missing, first_item, with_states, place_of, state_of, row_of, long_fault, is_wide, ports_fault, count_fault, form_fault, limit_fault}
use Rattle.kiss_format.specs.Steps.{with_said, no_lines}
use Rattle.kiss_format.specs.declared.keyword.Keyword.{Keyword}
use Rattle.kiss_format.specs.declared.keyword.Keyword.TheVariants as kind
use Rattle.kiss_format.specs.declared.fault.KissFault.{KissFault}
use Rattle.kiss_format.specs.declared.fault.KissFault.TheVariants.{BadHeader, BadRow, Limit}
use Rattle.kiss_format.specs.declared.fault.LimitKind.TheVariants as limit
use Rattle.kiss_format.specs.declared.draft.Draft.{Draft}
use Rattle.kiss_format.proofs.Firsts.{currents, one-first}
use Rattle.kiss_format.proofs.Mentions.{all_append, all_kept, with_keeps, with_once, with_longer, mentions_append, words_mentioned}
use Rattle.kiss_format.proofs.Places.{kept}
use Rattle.sis_base.specs.declared.limits.TheConstants.{MAX_MACHINE_ROWS, MAX_NAME, MAX_PORTS, MAX_STATES}

-- a number of ports that a header gave is one from 1 to `MAX_PORTS`
abbrev pub IsCount : Option ℕ → Type 0
IsCount None = Unit {0}
IsCount (Some count) = (1 ≤ count) × (count ≤ MAX_PORTS)

-- what holds of a word
abbrev pub OfWords : Type 1
OfWords = List ℕ → Type 0

-- a row has as many characters as the header gave
abbrev pub HasWidths : Option ℕ → Option ℕ → MachineRow → Type 0
HasWidths inputs outputs row = (inputs ≡ Some (length row.input)) × (outputs ≡ Some (length row.output))

-- a name is not too long
abbrev pub IsShort : List ℕ → Type 0
IsShort name = length name ≤ MAX_NAME

-- states and rows are good
pub record AreGood (W : OfWords) (states : List (List ℕ)) (rows : List MachineRow) : Type 0 where
  pub words : AllByRecursion W states
  pub once : all_different states ≡ true
  pub named : AllByRecursion (λ state. is_any state ≡ false) states
  pub in_order : first_mentions [] (flat_map mentioned_by rows) ≡ range_with_len 0 (length states)
  pub within : (place : ℕ) → first_item (currents rows) ≡ Some place → place < length states
  pub few : length rows ≤ MAX_MACHINE_ROWS
  pub limited : length states ≤ MAX_STATES
  pub short : AllByRecursion IsShort states

pub record IsGood (W : OfWords) (draft : Draft) : Type 0 where
  pub inputs : IsCount draft.inputs
  pub outputs : IsCount draft.outputs
  pub shaped : AllByRecursion (HasWidths draft.inputs draft.outputs) draft.rows
  pub body : AreGood W draft.states draft.rows

-- causes that do not hold

none_each : (causes : List (Option KissFault)) → first_of causes ≡ None → AllByRecursion (λ cause. cause ≡ None) causes
unfolding first_of
none_each [] e = tt
none_each (None ∷ causes) e = (refl, none_each causes e)
none_each (Some fault ∷ causes) e = absurd (let no : Some fault ≡ None = e in cc)

held : (test : Bool) (fault : KissFault) → when (not test) fault ≡ None → test ≡ true
held true fault e = refl
held false fault e = absurd (let no : Some fault ≡ None = e in cc)

within : (max count : ℕ) (fault : KissFault) → when (nat_lt max count) fault ≡ None → count ≤ max
within max count fault e = by (nat_lt max count) refl e
  where
    by : (b : Bool) → nat_lt max count ≡ b → when b fault ≡ None → count ≤ max
    by true t e = absurd (let no : Some fault ≡ None = e in cc)
    by false t e = grind (arith, nat_tests)

-- the statement of a line

fold_grows : (start : ℕ) (digits : List ℕ) → start ≤ fold (λ number digit. number * 10 + (digit - 48)) start digits
fold_grows start [] = omega arith
fold_grows start (digit ∷ digits) =
    let rest = fold_grows (start * 10 + (digit - 48)) digits in
    omega (arith, rest)

digit_some : (digit : ℕ) → is_digit digit ≡ true → not (digit == 48) ≡ true → 1 ≤ digit - 48
digit_some digit is other = grind (arith, nat_tests)

numeral_some : (word : List ℕ) → is_numeral word ≡ true → 1 ≤ number_of word
unfolding number_of
numeral_some [] h = absurd (let no : false ≡ true = (and_parts (nat_lt 0 0 && nat_le 0 4) (not (begins_with 48 [])) h).0 in cc)
numeral_some (digit ∷ digits) h =
    let outer = and_parts (is_digit digit && list_all is_digit digits && nat_lt 0 (length (digit ∷ digits)) && nat_le (length (digit ∷ digits)) 4) (not (digit == 48)) h in
    let less = and_parts (is_digit digit && list_all is_digit digits && nat_lt 0 (length (digit ∷ digits))) (nat_le (length (digit ∷ digits)) 4) outer.0 in
    let some = and_parts (is_digit digit && list_all is_digit digits) (nat_lt 0 (length (digit ∷ digits))) less.0 in
    let first = and_parts (is_digit digit) (list_all is_digit digits) some.0 in
    let one : 1 ≤ digit - 48 = digit_some digit first.0 outer.1 in
    omega (arith, one, fold_grows (0 * 10 + (digit - 48)) digits)

count_small : (word : List ℕ) → IsCount (count_of word)
unfolding count_of
count_small word = by (is_numeral word) (nat_le (number_of word) MAX_PORTS) refl refl
  where
    by : (a b : Bool) → is_numeral word ≡ a → nat_le (number_of word) MAX_PORTS ≡ b → IsCount (if a && b then Some (number_of word) else None)
    by false b e f = tt
    by true false e f = tt
    by true true e f = (numeral_some word e, grind (arith, nat_tests))

counts_small : (words : List (List ℕ)) → IsCount (count_in words)
counts_small [] = tt
counts_small (word ∷ []) = count_small word
counts_small (word ∷ other ∷ words) = tt

-- a count is small, and what holds of each word of a line holds of the states that it names
abbrev pub IsSaid : OfWords → Said → Type 0
IsSaid W (Inputs count) = IsCount (Some count)
IsSaid W (Outputs count) = IsCount (Some count)
IsSaid W (Row input current next output) = W current × W next
IsSaid W statement = Unit {0}

count_said : (W : OfWords) (statement : ℕ → Said) (count : Option ℕ) → ((n : ℕ) → IsCount (Some n) → IsSaid W (statement n)) → IsCount count → IsSaid W (of_count statement count)
count_said W statement None makes small = tt
count_said W statement (Some count) makes small = makes count small

word_said : (W : OfWords) (words : List (List ℕ)) → IsSaid W (of_word words) × IsSaid W (of_reset words)
word_said W [] = (tt, tt)
word_said W (word ∷ []) = (tt, tt)
word_said W (word ∷ other ∷ words) = (tt, tt)

row_said : (W : OfWords) (words : List (List ℕ)) → AllByRecursion W words → IsSaid W (of_row words)
row_said W (input ∷ current ∷ next ∷ output ∷ []) are = by (list_all is_character input && list_all is_character output)
  where
    by : (b : Bool) → IsSaid W (if b then Row input current next output else NoRow)
    by true = (are.1.0, are.1.1.0)
    by false = tt
row_said W [] are = tt
row_said W (a ∷ []) are = tt
row_said W (a ∷ b ∷ []) are = tt
row_said W (a ∷ b ∷ c ∷ []) are = tt
row_said W (a ∷ b ∷ c ∷ d ∷ e ∷ words) are = tt

pub line_said : (W : OfWords) (words : List (List ℕ)) → AllByRecursion W words → IsSaid W (said_by words)
unfolding said_by
line_said W words are = by (keyword_of (first_word words)) (other_words words)
  where
    by : (of : Keyword) (others : List (List ℕ)) → IsSaid W (said_as of others words)
    by kind.Inputs others = count_said W Inputs (count_in others) (λ n small. small) (counts_small others)
    by kind.Outputs others = count_said W Outputs (count_in others) (λ n small. small) (counts_small others)
    by kind.Products others = (word_said W others).0
    by kind.States others = (word_said W others).0
    by kind.Reset others = (word_said W others).1
    by kind.End others = tt
    by kind.Row others = row_said W words are
    by kind.Other others = tt

-- headers

none-shaped : (P : MachineRow → Type 0) (rows : List MachineRow) → (length rows == 0) ≡ true → AllByRecursion P rows
none-shaped P [] e = tt
none-shaped P (row ∷ rows) e = absurd (let no : length (row ∷ rows) ≡ 0 = grind (arith, nat_tests) in omega (arith, no))

count-first : (given : Option ℕ) (draft : Draft) (number : ℕ) → count_fault given draft number ≡ None → (length draft.rows == 0) ≡ true
count-first given draft number e = by (is_missing given) (length draft.rows == 0) e
  where
    by : (a b : Bool) → when (not a || not b) (BadHeader number) ≡ None → b ≡ true
    by a true e = refl
    by true false e = absurd (let no : Some (BadHeader number) ≡ None = e in cc)
    by false false e = absurd (let no : Some (BadHeader number) ≡ None = e in cc)

-- rows

all_short : (names : List (List ℕ)) → long_fault names ≡ None → AllByRecursion IsShort names
unfolding long_name
all_short [] e = tt
all_short (name ∷ names) e = by (nat_lt MAX_NAME (length name)) refl e (all_short names)
  where
    by : (b : Bool) → nat_lt MAX_NAME (length name) ≡ b
        → option_map (λ len. Limit limit.Name len) (option_map (λ (name : List ℕ). length name) (cond b (Some name) (find (λ (name : List ℕ). nat_lt MAX_NAME (length name)) names))) ≡ None
        → (long_fault names ≡ None → AllByRecursion IsShort names) → AllByRecursion IsShort (name ∷ names)
    by true t long rec = absurd (let no : Some (Limit limit.Name (length name)) ≡ None = long in cc)
    by false t long rec = let few : length name ≤ MAX_NAME = grind (arith, nat_tests) in (few, rec long)

cube_width : (given : Option ℕ) (cube : List ℕ) → is_wide given cube ≡ true → given ≡ Some (length (map character_of cube))
cube_width None cube e = absurd (let no : false ≡ true = e in cc)
cube_width (Some width) cube e =
    let same : width ≡ length cube = grind (arith, nat_tests) in
    ap Some (same ∙ sym (length-map cube character_of))

kept_named : (words : List (List ℕ)) → AllByRecursion (λ state. is_any state ≡ false) (kept words)
kept_named [] = tt
kept_named (word ∷ words) = by (is_any word) refl (kept_named words)
  where
    by : (b : Bool) → is_any word ≡ b → AllByRecursion (λ state. is_any state ≡ false) (kept words) → AllByRecursion (λ state. is_any state ≡ false) (if not b then word ∷ kept words else kept words)
    by true e rest = rest
    by false e rest = (e, rest)

state_within : (states : List (List ℕ)) (word : List ℕ) (place : ℕ) → state_of states word ≡ Some place → place < length states
state_within states word place = by (is_any word)
  where
    by : (b : Bool) → (if b then None else place_of states word) ≡ Some place → place < length states
    by true e = absurd (let no : None ≡ Some place = e in cc)
    by false e = (position-Some (bytes_eq word) states place [] e).0

first_less : (bound : ℕ) (xs ys : List ℕ) → ((k : ℕ) → first_item xs ≡ Some k → k < bound) → ((k : ℕ) → first_item ys ≡ Some k → k < bound)
    → (k : ℕ) → first_item (xs ++ ys) ≡ Some k → k < bound
first_less bound [] ys front behind k e = behind k e
first_less bound (x ∷ xs) ys front behind k e = front k e

option-or-none : {A : Type 0} (o : Option A) → option_or o None ≡ o
option-or-none None = refl
option-or-none (Some a) = refl

good_row : (W : OfWords) (draft : Draft) (number : ℕ) (input current next output : List ℕ) → IsGood W draft → W current × W next → form_fault draft number (Row input current next output) ≡ None
    → limit_fault (with_said (Row input current next output) draft) ≡ None → IsGood W (with_said (Row input current next output) draft)
unfolding first_mentions form_fault limit_fault
good_row W draft number input current next output good are none small =
    let after = with_states draft.states (kept (current ∷ next ∷ [])) in
    let row : MachineRow = row_of after input current next output in
    let wide = is_wide draft.inputs input && is_wide draft.outputs output in
    let causes = none_each (ports_fault draft number ∷ when (not wide) (BadRow number) ∷ long_fault (current ∷ next ∷ []) ∷ []) none in
    let many = Limit limit.Rows (MAX_MACHINE_ROWS + 1) in
    let states = Limit limit.States (MAX_STATES + 1) in
    let limits = none_each (when (nat_lt MAX_MACHINE_ROWS (length (draft.rows ++ row ∷ []))) many ∷ when (nat_lt MAX_STATES (length after)) states ∷ []) small in
    let cubes = and_parts (is_wide draft.inputs input) (is_wide draft.outputs output) (held wide (BadRow number) causes.1.0) in
    let longer = with_longer draft.states (kept (current ∷ next ∷ [])) in
    let mentions : flat_map mentioned_by (draft.rows ++ row ∷ []) ≡ flat_map mentioned_by draft.rows ++ mentioned_by row =
    flat_map-append mentioned_by draft.rows (row ∷ []) ∙ ap (λ more. flat_map mentioned_by draft.rows ++ more) (append-nil (mentioned_by row)) in
    let firsts : currents (draft.rows ++ row ∷ []) ≡ currents draft.rows ++ currents (row ∷ []) = filter_map-append (λ (one : MachineRow). one.current) draft.rows (row ∷ []) in
    let last : first_item (currents (row ∷ [])) ≡ state_of after current = one-first row (state_of after current) [] refl ∙ option-or-none (state_of after current) in
    let body = good.body in
    record {
      inputs = good.inputs;
      outputs = good.outputs;
      shaped = all_append (HasWidths draft.inputs draft.outputs) draft.rows (row ∷ []) good.shaped ((cube_width draft.inputs input cubes.0, cube_width draft.outputs output cubes.1), tt);
      body = record {
        words = with_keeps W draft.states (kept (current ∷ next ∷ [])) body.words (all_kept W (λ word. not (is_any word)) (current ∷ next ∷ []) (are.0, (are.1, tt)));
        once = with_once draft.states (kept (current ∷ next ∷ [])) body.once;
        named = with_keeps (λ state. is_any state ≡ false) draft.states (kept (current ∷ next ∷ [])) body.named (kept_named (current ∷ next ∷ []));
        in_order = ap (first_mentions []) mentions
            ∙ mentions_append [] (flat_map mentioned_by draft.rows) (mentioned_by row)
            ∙ ap (λ known. first_mentions known (mentioned_by row)) body.in_order
            ∙ words_mentioned draft.states current next after refl;
        within = λ place e.
            first_less (length after) (currents draft.rows) (currents (row ∷ []))
            (λ k at. let less : k < length draft.states = body.within k at in omega (arith, less, longer))
            (λ k at. state_within after current k (sym last ∙ at))
            place (ap first_item (sym firsts) ∙ e);
        few = within MAX_MACHINE_ROWS (length (draft.rows ++ row ∷ [])) many limits.0;
        limited = within MAX_STATES (length after) states limits.1.0;
        short = with_keeps IsShort draft.states (kept (current ∷ next ∷ [])) body.short (all_kept IsShort (λ word. not (is_any word)) (current ∷ next ∷ []) (all_short (current ∷ next ∷ []) causes.1.1.0));
      };
    }

-- statements

pub good_said : (W : OfWords) (statement : Said) (draft : Draft) (number : ℕ) → IsGood W draft → IsSaid W statement → form_fault draft number statement ≡ None → limit_fault (with_said statement draft) ≡ None → IsGood W (with_said statement draft)
unfolding form_fault
good_said W (Inputs count) draft number good is e small =
    let free = none-shaped (HasWidths (Some count) draft.outputs) draft.rows (count-first draft.inputs draft number e) in
    record { inputs = is; outputs = good.outputs; shaped = free; body = good.body }
good_said W (Outputs count) draft number good is e small =
    let free = none-shaped (HasWidths draft.inputs (Some count)) draft.rows (count-first draft.outputs draft number e) in
    record { inputs = good.inputs; outputs = is; shaped = free; body = good.body }
good_said W (Reset name) draft number good is e small = record { inputs = good.inputs; outputs = good.outputs; shaped = good.shaped; body = good.body }
good_said W (Row input current next output) draft number good is e small = good_row W draft number input current next output good is e small
good_said W Nothing draft number good is e small = good
good_said W NoRow draft number good is e small = good
good_said W NoHeader draft number good is e small = good

pub good_nothing : (W : OfWords) → IsGood W no_lines
unfolding all_different first_mentions
good_nothing W = record {
  inputs = tt;
  outputs = tt;
  shaped = tt;
  body = record {
    words = tt;
    once = refl;
    named = tt;
    in_order = refl;
    within = λ place e. absurd (let no : None ≡ Some place = e in cc);
    few = omega arith;
    limited = omega arith;
    short = tt;
  };
}

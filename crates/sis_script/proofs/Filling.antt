-- Words that fill slots, and options in front of them, one at a time.
use Rattle.std.proofs.Common.{◌≡◌, ℕ, ◌+◌, true, false, Option, Some, None, Result, Ok, Err, List, [], ◌∷◌, ◌++◌, ◌<◌, ◌≤◌, length, map, drop, get_or, refl, sym, ◌∙◌, ap, append_assoc, add-one, drop-cons, arith}
use Rattle.std.proofs.Math.ListN.{drop_of_length-le}
use Rattle.std.proofs.lemmas.List.{append-nil}
use Rattle.sis_script.specs.Kinds.{value_of}
use Rattle.sis_script.specs.Grammar.{Front, Behind, with_word, fill, fill_front, kind_of, lacks_word, without_options, with_option, with_value, option_of, without, parse_at}
use Rattle.sis_script.specs.Steps.{first_option, width_of, value_or_fault, value_behind}
use Rattle.sis_script.specs.declared.command.ScriptFault.{ScriptFault}
use Rattle.sis_script.specs.declared.command.ScriptFault.TheVariants.{BadOption, MissingWord}
use Rattle.sis_script.specs.declared.kinds.Kind.{Kind}
use Rattle.sis_script.specs.declared.kinds.Value.{Value}
use Rattle.sis_script.specs.declared.grammar.OptionForm.{OptionForm}
use Rattle.sis_script.specs.declared.grammar.OptionGiven.{OptionGiven}
use Rattle.sis_script.specs.declared.grammar.Slot.{Slot}
use Rattle.sis_script.specs.declared.grammar.Given.{Given}

-- values in front of those that follow
abbrev pub with_values : List Value → Result (List Value) ScriptFault → Result (List Value) ScriptFault
with_values values (Ok rest) = Ok (values ++ rest)
with_values values (Err fault) = Err fault

pub no_values : (rest : Result (List Value) ScriptFault) → with_values [] rest ≡ rest
no_values (Ok rest) = refl
no_values (Err fault) = refl

word_more : (values : List Value) (value : Value) (rest : Result (List Value) ScriptFault) → with_values (values ++ value ∷ []) rest ≡ with_values values (with_word (Some value) rest)
word_more values value (Ok rest) = ap Ok (append_assoc values (value ∷ []) rest)
word_more values value (Err fault) = refl

pub word_taken : (values : List Value) (slot : Slot) (slots : List Slot) (word : List ℕ) (words : List (List ℕ)) (value : Value) →
    Some value ≡ value_of (kind_of slot) word →
    with_values (values ++ value ∷ []) (fill slots words) ≡ with_values values (fill (slot ∷ slots) (word ∷ words))
unfolding fill
word_taken values slot slots word words value fits = rw (← fits) (word_more values value (fill slots words))

pub word_unfit : (values : List Value) (slot : Slot) (slots : List Slot) (word : List ℕ) (words : List (List ℕ)) →
    None ≡ value_of (kind_of slot) word → with_values values (fill (slot ∷ slots) (word ∷ words)) ≡ Err BadOption
unfolding fill
word_unfit values slot slots word words unfit = rw (← unfit) refl

le_same : (n : ℕ) → n ≤ n
le_same n = omega arith

front : {A : Type 0} (items : List A) (i : ℕ) (default : A) → i < length items → drop i items ≡ get_or items i default ∷ drop (i + 1) items
front items i default inside = rw (add-one, drop-cons items i default) refl

module _ {A : Type 0} (read : A → List ℕ) (values : List Value) (slots : List Slot) (words : List A) (i : ℕ) where
  pub slot_taken : (slot : Slot) (word : A) (value : Value) → i < length slots → i < length words → Some value ≡ value_of (kind_of (get_or slots i slot)) (read (get_or words i word)) →
      with_values (values ++ value ∷ []) (fill (drop (i + 1) slots) (map read (drop (i + 1) words))) ≡ with_values values (fill (drop i slots) (map read (drop i words)))
  slot_taken slot word value in_slots in_words fits =
      rw (front slots i slot in_slots, front words i word in_words) (word_taken values (get_or slots i slot) (drop (i + 1) slots) (read (get_or words i word)) (map read (drop (i + 1) words)) value fits)

  pub slot_unfit : (slot : Slot) (word : A) → i < length slots → i < length words → None ≡ value_of (kind_of (get_or slots i slot)) (read (get_or words i word)) →
      with_values values (fill (drop i slots) (map read (drop i words))) ≡ Err BadOption
  slot_unfit slot word in_slots in_words unfit =
      rw (front slots i slot in_slots, front words i word in_words) (word_unfit values (get_or slots i slot) (drop (i + 1) slots) (read (get_or words i word)) (map read (drop (i + 1) words)) unfit)

  pub slot_over : (word : A) → length slots ≤ i → i < length words → with_values values (fill (drop i slots) (map read (drop i words))) ≡ Err BadOption
  unfolding fill
  slot_over word past in_words = rw (drop_of_length-le slots past, front words i word in_words) refl

  pub end_lacks : i ≡ length words → lacks_word (drop (length words) slots) ≡ true → with_values values (fill (drop i slots) (map read (drop i words))) ≡ Err MissingWord
  unfolding fill
  end_lacks end lacks = rw (end, drop_of_length-le words (le_same (length words)), lacks) refl

  pub end_fits : i ≡ length words → lacks_word (drop (length words) slots) ≡ false → with_values values (fill (drop i slots) (map read (drop i words))) ≡ Ok values
  unfolding fill
  end_fits end lacks = rw (end, drop_of_length-le words (le_same (length words)), lacks) (ap Ok (append-nil values))

-- options in front of what follows
abbrev pub with_options : List OptionGiven → Result Given ScriptFault → Result Given ScriptFault
with_options options (Ok given) = Ok (record { options = options ++ given.options; words = given.words })
with_options options (Err fault) = Err fault

pub no_options : (rest : Result Given ScriptFault) → with_options [] rest ≡ rest
no_options (Ok rest) = refl
no_options (Err fault) = refl

option_more : (options : List OptionGiven) (option : OptionGiven) (rest : Result Given ScriptFault) →
    with_options (options ++ option ∷ []) rest ≡ with_options options (with_option option rest)
option_more options option (Ok rest) = ap (λ (all : List OptionGiven). Ok (record { options = all; words = rest.words })) (append_assoc options (option ∷ []) rest.options)
option_more options option (Err fault) = refl

pub value_none : (options : List OptionForm) (slots : List Slot) (word : List ℕ) (words : List (List ℕ)) (option : OptionForm) →
    Some option ≡ option_of options word → None ≡ option.kind →
    with_option (record { letter = option.letter; value = None }) (parse_at Front (without option.letter options) slots words) ≡ parse_at Front options slots (word ∷ words)
unfolding parse_at
value_none options slots word words option found none = rw (← found, parse_at) (rw (← none) refl)

pub value_some : (options : List OptionForm) (slots : List Slot) (word : List ℕ) (words : List (List ℕ)) (option : OptionForm) (kind : Kind) →
    Some option ≡ option_of options word → Some kind ≡ option.kind →
    parse_at (Behind option.letter kind) (without option.letter options) slots words ≡ parse_at Front options slots (word ∷ words)
unfolding parse_at
value_some options slots word words option kind found some = rw (← found, parse_at) (rw (← some) refl)

value_fits : (letter : ℕ) (value found : Option Value) (rest : Result Given ScriptFault) → Ok value ≡ value_or_fault found →
    with_option (record { letter = letter; value = value }) rest ≡ with_value letter found rest
value_fits letter value None rest fits = cc
value_fits letter value (Some given) rest fits = let same : value ≡ Some given = cc in rw same refl

value_unfit : (letter : ℕ) (fault : ScriptFault) (found : Option Value) (rest : Result Given ScriptFault) → Err fault ≡ value_or_fault found →
    with_value letter found rest ≡ Err fault
value_unfit letter fault None rest unfit = cc
value_unfit letter fault (Some given) rest unfit = cc

module _ {A : Type 0} (read : A → List ℕ) (options : List OptionForm) (slots : List Slot) (option : OptionForm) where
  kind_taken : (word : List ℕ) → Some option ≡ option_of options word → (kind : Option Kind) → kind ≡ option.kind → (words : List A) (value : Option Value) →
      Ok value ≡ value_behind kind (map read words) →
      with_option (record { letter = option.letter; value = value }) (parse_at Front (without option.letter options) slots (map read (drop (width_of kind) words)))
      ≡ parse_at Front options slots (word ∷ map read words)
  unfolding parse_at
  kind_taken word found None same words value behind =
      let none : value ≡ None = cc in rw none (value_none options slots word (map read words) option found same)
  kind_taken word found (Some kind) same [] value behind = cc
  kind_taken word found (Some kind) same (next ∷ words) value behind =
      value_fits option.letter value (value_of kind (read next)) (parse_at Front (without option.letter options) slots (map read words)) behind
      ∙ value_some options slots word (read next ∷ map read words) option kind found same

  kind_failed : (word : List ℕ) → Some option ≡ option_of options word → (kind : Option Kind) → kind ≡ option.kind → (words : List A) (fault : ScriptFault) →
      Err fault ≡ value_behind kind (map read words) → parse_at Front options slots (word ∷ map read words) ≡ Err fault
  unfolding parse_at
  kind_failed word found None same words fault behind = cc
  kind_failed word found (Some kind) same [] fault behind =
      let lacks : MissingWord ≡ fault = cc in sym (value_some options slots word [] option kind found same) ∙ ap Err lacks
  kind_failed word found (Some kind) same (next ∷ words) fault behind =
      sym (value_some options slots word (read next ∷ map read words) option kind found same)
      ∙ value_unfit option.letter fault (value_of kind (read next)) (parse_at Front (without option.letter options) slots (map read words)) behind

  pub option_taken : (given : List OptionGiven) (words : List A) (value : Option Value) →
      Some option ≡ first_option options (map read words) → Ok value ≡ value_behind option.kind (map read (drop 1 words)) →
      with_options (given ++ record { letter = option.letter; value = value } ∷ [])
      (parse_at Front (without option.letter options) slots (map read (drop (width_of option.kind) (drop 1 words))))
      ≡ with_options given (parse_at Front options slots (map read words))
  option_taken given [] value found behind = cc
  option_taken given (word ∷ words) value found behind =
      option_more given (record { letter = option.letter; value = value }) (parse_at Front (without option.letter options) slots (map read (drop (width_of option.kind) words)))
      ∙ ap (with_options given) (kind_taken (read word) found option.kind refl words value behind)

  pub option_failed : (given : List OptionGiven) (words : List A) (fault : ScriptFault) →
      Some option ≡ first_option options (map read words) → Err fault ≡ value_behind option.kind (map read (drop 1 words)) →
      with_options given (parse_at Front options slots (map read words)) ≡ Err fault
  option_failed given [] fault found behind = cc
  option_failed given (word ∷ words) fault found behind =
      ap (with_options given) (kind_failed (read word) found option.kind refl words fault behind)

pub front_end : (options : List OptionForm) (slots : List Slot) (words : List (List ℕ)) → None ≡ first_option options words →
    parse_at Front options slots words ≡ without_options (fill_front slots words)
unfolding parse_at
front_end options slots [] none = refl
front_end options slots (word ∷ words) none = rw (← none, parse_at) refl

pub options_end : (given : List OptionGiven) (options : List OptionForm) (slots : List Slot) (words : List (List ℕ)) (values : List Value) →
    None ≡ first_option options words → Ok values ≡ fill_front slots words →
    with_options given (parse_at Front options slots words) ≡ Ok (record { options = given; words = values })
options_end given options slots words values none filled =
    rw (front_end options slots words none) (rw (← filled) (ap (λ (all : List OptionGiven). Ok (record { options = all; words = values })) (append-nil given)))

pub options_end_failed : (given : List OptionGiven) (options : List OptionForm) (slots : List Slot) (words : List (List ℕ)) (fault : ScriptFault) →
    None ≡ first_option options words → Err fault ≡ fill_front slots words →
    with_options given (parse_at Front options slots words) ≡ Err fault
options_end_failed given options slots words fault none filled = rw (front_end options slots words none) (rw (← filled) refl)

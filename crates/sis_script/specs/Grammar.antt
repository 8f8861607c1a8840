-- The grammar that all commands share: options first, in any order and each at most once, then the
-- other words. Source: the SIS manual's command language (UCB/ERL M92/41), whose commands are `name
-- [-a] [-l VALUE] WORD ..`. The words after a command's name are judged from left to right, and the
-- first wrong one counts; a missing word is found after the last.
use Rattle.std.specs.Prelude.{ℕ, Bool, true, false, not, ◌&&◌, ◌==◌, Option, Some, None, Result, Ok, Err, List, [], ◌∷◌, bytes_eq, filter, find, if◌then◌else◌}
use Rattle.sis_text.specs.Words.{begins_with}
use Rattle.sis_script.specs.Kinds.{value_of}
use Rattle.sis_script.specs.declared.command.ScriptFault.{ScriptFault}
use Rattle.sis_script.specs.declared.command.ScriptFault.TheVariants.{BadOption, MissingWord}
use Rattle.sis_script.specs.declared.kinds.Kind.{Kind}
use Rattle.sis_script.specs.declared.kinds.Kind.TheVariants.{Integer}
use Rattle.sis_script.specs.declared.kinds.Value.{Value}
use Rattle.sis_script.specs.declared.grammar.OptionForm.{OptionForm}
use Rattle.sis_script.specs.declared.grammar.OptionGiven.{OptionGiven}
use Rattle.sis_script.specs.declared.grammar.Slot.{Slot}
use Rattle.sis_script.specs.declared.grammar.Slot.TheVariants.{Needed, Optional}
use Rattle.sis_script.specs.declared.grammar.Given.{Given}

-- the value of a word, put before those of the words after it; a word that does not fit counts
-- before all after it
abbrev pub with_word : Option Value → Result (List Value) ScriptFault → Result (List Value) ScriptFault
with_word None rest = Err BadOption
with_word (Some value) (Ok values) = Ok (value ∷ values)
with_word (Some value) (Err fault) = Err fault

-- the kind of word that a slot asks for
abbrev pub kind_of : Slot → Kind
kind_of (Needed kind) = kind
kind_of (Optional kind) = kind

-- whether the first slot must be filled
abbrev pub lacks_word : List Slot → Bool
lacks_word (Needed kind ∷ slots) = true
lacks_word slots = false

-- Words fill slots in order. A word past the last slot is a bad option; a needed slot that stays
-- empty is a missing word.
unfoldable pub fill : List Slot → List (List ℕ) → Result (List Value) ScriptFault
fill slots [] = if lacks_word slots then Err MissingWord else Ok []
fill [] (word ∷ words) = Err BadOption
fill (slot ∷ slots) (word ∷ words) = with_word (value_of (kind_of slot) word) (fill slots words)

-- whether the first slot asks for an integer, which may begin with `-`
abbrev pub asks_integer : List Slot → Bool
asks_integer (Needed Integer ∷ slots) = true
asks_integer (Optional Integer ∷ slots) = true
asks_integer slots = false

-- words where an option may come, of which the first is not one: it may begin with `-` only if an
-- integer is asked for
abbrev pub fill_front : List Slot → List (List ℕ) → Result (List Value) ScriptFault
fill_front slots [] = fill slots []
fill_front slots (word ∷ words) =
    if begins_with 45 word && not (asks_integer slots) then Err BadOption else fill slots (word ∷ words)

-- the values of words that come after all options
abbrev pub without_options : Result (List Value) ScriptFault → Result Given ScriptFault
without_options (Ok values) = Ok (record { options = []; words = values })
without_options (Err fault) = Err fault

-- an option, put before what the words after it give
abbrev pub with_option : OptionGiven → Result Given ScriptFault → Result Given ScriptFault
with_option option (Ok given) = Ok (record { options = option ∷ given.options; words = given.words })
with_option option (Err fault) = Err fault

-- an option with its value, put before what the words after it give; a value that does not fit
-- counts before all after it
abbrev pub with_value : ℕ → Option Value → Result Given ScriptFault → Result Given ScriptFault
with_value letter None rest = Err BadOption
with_value letter (Some value) rest = with_option (record { letter = letter; value = Some value }) rest

-- whether a word is an option: `-` and its letter
abbrev pub is_option : List ℕ → OptionForm → Bool
is_option word option = bytes_eq word (45 ∷ option.letter ∷ [])

-- the option that a word is, if any
abbrev pub option_of : List OptionForm → List ℕ → Option OptionForm
option_of options word = find (is_option word) options

-- the options with another letter
abbrev pub without : ℕ → List OptionForm → List OptionForm
without letter options = filter (λ option. not (option.letter == letter)) options

-- the position of a word: where an option may come, or after an option that requires a value
pub data Place : Type 0 where
  Front : Place
  Behind : (letter : ℕ) → (kind : Kind) → Place

-- What words give if these options may still come and these slots are to be filled. Each option may
-- come once.
unfoldable pub parse_at : Place → List OptionForm → List Slot → List (List ℕ) → Result Given ScriptFault
parse_at Front options slots [] = without_options (fill_front slots [])
parse_at (Behind letter kind) options slots [] = Err MissingWord
parse_at (Behind letter kind) options slots (word ∷ words) = with_value letter (value_of kind word) (parse_at Front options slots words)
parse_at Front options slots (word ∷ words) = elim (option_of options word) [
  | None ↦ without_options (fill_front slots (word ∷ words))
  | Some option ↦ elim option.kind [
    | None ↦ with_option (record { letter = option.letter; value = None }) (parse_at Front (without option.letter options) slots words)
    | Some kind ↦ parse_at (Behind option.letter kind) (without option.letter options) slots words
  ]
]

-- What the words after a command's name give, by its options and the slots for its other words. If
-- it has no options, all words go to the slots.
unfoldable pub parse : List OptionForm → List Slot → List (List ℕ) → Result Given ScriptFault
parse [] slots words = without_options (fill slots words)
parse (option ∷ options) slots words = parse_at Front (option ∷ options) slots words

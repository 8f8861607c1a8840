-- How options are taken off the front of words, one at a time. Only private functions use it; no
-- public clause cites it. Source: the grammar of this crate, of which these are the steps.
use Rattle.std.specs.Prelude.{ℕ, Option, Some, None, Result, Ok, Err, List, [], ◌∷◌}
use Rattle.sis_script.specs.Kinds.{value_of}
use Rattle.sis_script.specs.Grammar.{option_of}
use Rattle.sis_script.specs.declared.command.ScriptFault.{ScriptFault}
use Rattle.sis_script.specs.declared.command.ScriptFault.TheVariants.{BadOption, MissingWord}
use Rattle.sis_script.specs.declared.kinds.Kind.{Kind}
use Rattle.sis_script.specs.declared.kinds.Value.{Value}
use Rattle.sis_script.specs.declared.grammar.OptionForm.{OptionForm}

-- the option that the first word is, if any
abbrev pub first_option : List OptionForm → List (List ℕ) → Option OptionForm
first_option options [] = None
first_option options (word ∷ words) = option_of options word

-- how many words an option takes after itself
abbrev pub width_of : Option Kind → ℕ
width_of None = 0
width_of (Some kind) = 1

-- a word as the value of an option
abbrev pub value_or_fault : Option Value → Result (Option Value) ScriptFault
value_or_fault None = Err BadOption
value_or_fault (Some value) = Ok (Some value)

-- the value that an option takes from the words after it, if it takes one
abbrev pub value_behind : Option Kind → List (List ℕ) → Result (Option Value) ScriptFault
value_behind None words = Ok None
value_behind (Some kind) [] = Err MissingWord
value_behind (Some kind) (word ∷ words) = value_or_fault (value_of kind word)

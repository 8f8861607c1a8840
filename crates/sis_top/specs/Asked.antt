-- What the words of the command line ask for. Source: the SIS manual (UCB/ERL M92/41): the script
-- is a file (`-f`), a text (`-c`), or, with neither, the input.
use Rattle.std.specs.Prelude.{◌≡◌, ⊤, Bool, false, Option, Some, None, option_map, List, [], ◌∷◌, codes, bytes_eq, Result, Ok, Err}
use Rattle.clap.specs.Words.{Kinds, Text, fault_of}
use Rattle.sis_top.specs.Shell.{shell, value_of}
use Rattle.sis_top.specs.declared.options.Options.{Options}
use Rattle.sis_top.specs.declared.options.ScriptFrom.{ScriptFrom}
use Rattle.sis_top.specs.declared.options.ScriptFrom.TheVariants as from
use Rattle.sis_top.specs.declared.options.WordsFault.{WordsFault}
use Rattle.sis_top.specs.declared.options.WordsFault.TheVariants.{Usage, Memory}

-- where the script is: in the file of a name, in the words themselves, on the input
pub data TheScript : Type 0 where
  InFile : (name : Text) → TheScript
  AsText : (text : Text) → TheScript
  OnInput : TheScript

-- what is asked for: whether the run goes on after a refused command, and the script
pub record TheOptions : Type 0 where
  pub keep : Bool
  pub script : TheScript

-- a flag's value is the text `true` if it is given, and `false` if it is not
abbrev pub is_set : Option Text → Bool
is_set None = false
is_set (Some value) = bytes_eq value (codes "true")

-- the script by the values of `-f` and `-c`; with both there is none
abbrev pub script_by : Option Text → Option Text → Option TheScript
script_by None None = Some OnInput
script_by (Some name) None = Some (InFile name)
script_by None (Some text) = Some (AsText text)
script_by (Some name) (Some text) = None

-- the options by the values of `-k`, `-f` and `-c`
abbrev pub options_by : Option Text → Option Text → Option Text → Option TheOptions
options_by keep file text = option_map (λ script. record { keep = is_set keep; script = script }) (script_by file text)

-- the options, if clap finds no fault in the words
abbrev pub where_fit : Kinds → Option TheOptions → Option TheOptions
where_fit [] options = options
where_fit (kind ∷ kinds) options = None

-- what the words ask for, if they are accepted
abbrev pub options_of : List Text → Option TheOptions
options_of words = where_fit (fault_of shell words)
    (options_by (value_of (codes "keep") words) (value_of (codes "file") words) (value_of (codes "text") words))

-- the script of an answer of the code, without its references
abbrev pub script_in : ScriptFrom → TheScript
script_in (from.File name) = InFile name.now
script_in (from.Text text) = AsText text.now
script_in from.Input = OnInput

-- the same for the whole answer
abbrev pub options_in : Options → TheOptions
options_in options = record { keep = options.keep; script = script_in options.script }

-- an answer is what was asked for, or Usage if the words are not accepted; only want of memory is
-- always allowed
abbrev pub Answers : Option TheOptions → Result Options WordsFault → Type 0
Answers asked (Ok options) = asked ≡ Some (options_in options)
Answers asked (Err Usage) = asked ≡ None
Answers asked (Err Memory) = ⊤

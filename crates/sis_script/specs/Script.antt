-- The commands of a script: one list of all of them, and which command words give. Source: the SIS
-- manual's command language (UCB/ERL M92/41): `;` and line ends separate commands, blanks separate
-- words, and `#` begins a comment. There are no quotes or escapes. Grammar.antt says how words are
-- judged by the options and slots of their command.
use Rattle.std.specs.Prelude.{ℕ, ◌==◌, Bool, is_some, Option, Some, None, Result, Ok, Err, List, [], ◌∷◌, bytes_eq, codes, find, min, option_map, unwrap_or, if◌then◌else◌}
use Rattle.sis_text.specs.Entries.{Entry}
use Rattle.sis_script.specs.Bounds.{most_rows, usual_rows, least_inputs, most_inputs, usual_inputs, most_seed, least_tables, most_tables}
use Rattle.sis_script.specs.Grammar.{parse}
use Rattle.sis_script.specs.declared.command.Op.{Op}
use Rattle.sis_script.specs.declared.command.Op.TheVariants.{Echo, Quit, ReadBlif, ReadKiss, ReadLibrary, Generate, WriteBlif, WriteKiss, WriteNetlist, Map, PrintStats, Print, PrintLatch, PrintFactor, PrintKernel, Change, StateAssign, Undo, Source, Bad}
use Rattle.sis_script.specs.declared.command.Change.TheVariants as change
use Rattle.sis_script.specs.declared.command.Style.{Style}
use Rattle.sis_script.specs.declared.command.Style.TheVariants as style
use Rattle.sis_script.specs.declared.command.ScriptFault.{ScriptFault}
use Rattle.sis_script.specs.declared.command.ScriptFault.TheVariants.{BadCommand, MissingWord}
use Rattle.sis_script.specs.declared.command.Command.{Command}
use Rattle.sis_script.specs.declared.kinds.Kind.{Kind}
use Rattle.sis_script.specs.declared.kinds.Kind.TheVariants as kind
use Rattle.sis_script.specs.declared.kinds.Value.{Value}
use Rattle.sis_script.specs.declared.kinds.Value.TheVariants as value
use Rattle.sis_script.specs.declared.grammar.OptionForm.{OptionForm}
use Rattle.sis_script.specs.declared.grammar.OptionGiven.{OptionGiven}
use Rattle.sis_script.specs.declared.grammar.Slot.{Slot}
use Rattle.sis_script.specs.declared.grammar.Slot.TheVariants.{Needed, Optional}
use Rattle.sis_script.specs.declared.grammar.Given.{Given}

-- a command of the shell: its word, its options, the slots for its other words, and the operation
-- that the given words make
pub record Form : Type 0 where
  pub word : List ℕ
  pub options : List OptionForm
  pub slots : List Slot
  pub becomes : Given → Op

-- the letters of options
abbrev pub letter_a : ℕ
letter_a = 97

abbrev pub letter_l : ℕ
letter_l = 108

abbrev pub letter_m : ℕ
letter_m = 109

abbrev pub letter_n : ℕ
letter_n = 110

abbrev pub letter_o : ℕ
letter_o = 111

abbrev pub letter_s : ℕ
letter_s = 115

-- an option with a value of this kind
abbrev pub valued : ℕ → Kind → OptionForm
valued letter kind = record { letter = letter; kind = Some kind }

-- an option without a value
abbrev pub bare : ℕ → OptionForm
bare letter = record { letter = letter; kind = None }

-- the first of the words that are not options, if there is one
abbrev pub first_word : Given → Option Value
first_word given = elim given.words [ [] ↦ None | value ∷ values ↦ Some value ]

-- the file that a word names
abbrev pub file_of : Option Value → Option (List ℕ)
file_of (Some (value.File file)) = Some file
file_of word = None

-- the name in a word
abbrev pub name_of : Option Value → Option (List ℕ)
name_of (Some (value.Name name)) = Some name
name_of word = None

-- the file that the first word names
abbrev pub file_in : Given → Option (List ℕ)
file_in given = file_of (first_word given)

-- the name in the first word
abbrev pub name_in : Given → Option (List ℕ)
name_in given = name_of (first_word given)

-- a command that needs a word; if its slot is needed, the grammar has refused words without it
abbrev pub needed : Option Op → Op
needed None = Bad MissingWord
needed (Some op) = op

-- the number in a value, if there is one
abbrev pub number_in : Option Value → Option ℕ
number_in (Some (value.Number number)) = Some number
number_in other = None

-- the option of a letter, if it was given
abbrev pub option_given : ℕ → List OptionGiven → Option OptionGiven
option_given letter options = find (λ (option : OptionGiven). option.letter == letter) options

-- the number of an option, if there is one
abbrev pub number_of : Option OptionGiven → Option ℕ
number_of None = None
number_of (Some option) = number_in option.value

-- the number that was given with the option of a letter, if any
unfoldable pub number_given : ℕ → List OptionGiven → Option ℕ
number_given letter options = number_of (option_given letter options)

-- `eliminate` with the greatest number of rows that it allows, by the threshold that it needs
abbrev pub eliminate_by : ℕ → Option Value → Op
eliminate_by rows (Some (value.Integer threshold)) = Change (change.Eliminate threshold rows)
eliminate_by rows other = Bad MissingWord

-- `eliminate`: `-l` gives the greatest number of rows that it allows. The cap changes nothing,
-- since the grammar lets no greater number pass; it says that the number is within its type.
abbrev pub eliminate_op : Given → Op
eliminate_op given =
    eliminate_by (min (unwrap_or (number_given letter_l given.options) usual_rows) most_rows)
    (first_word given)

-- the number of inputs that the option of a letter allows (capped like the rows of `eliminate`)
abbrev pub inputs_given : ℕ → List OptionGiven → ℕ
inputs_given letter options = min (unwrap_or (number_given letter options) usual_inputs) most_inputs

-- `tech_decomp`: `-a` and `-o` give the inputs of products and of sums
abbrev pub tech_decomp_op : Given → Op
tech_decomp_op given =
    Change (change.TechDecomp (inputs_given letter_a given.options)
    (inputs_given letter_o given.options))

-- `gen`: the circuit of a seed and a number of tables, which are the first two words
abbrev pub generate_by : List Value → Op
generate_by (value.Number seed ∷ value.Number tables ∷ values) = Generate seed tables
generate_by other = Bad MissingWord

abbrev pub generate_op : Given → Op
generate_op given = generate_by given.words

-- the style of state codes in a value; the default if there is none
abbrev pub style_in : Option Value → Style
style_in (Some (value.Style named)) = named
style_in other = style.Natural

-- `state_assign`: the machine's network, its states coded in the style of the first word
abbrev pub state_assign_op : Given → Op
state_assign_op given = StateAssign (style_in (first_word given))

-- whether the option of a letter was given
abbrev pub is_given : ℕ → Given → Bool
is_given letter given = is_some (option_given letter given.options)

-- `write_blif`: the network, or with `-n` the netlist
abbrev pub write_op : Given → Op
write_op given =
    if is_given letter_n given then WriteNetlist (file_in given) else WriteBlif (file_in given)

-- `map`: `-s` prints the total alone
abbrev pub map_op : Given → Op
map_op given = Map (is_given letter_s given)

-- a command that is one word
abbrev pub plain : List ℕ → Op → Form
plain word op = record { word = word; options = []; slots = []; becomes = λ given. op }

-- a command with one option, which is accepted and has no other effect
abbrev pub plain_with : List ℕ → OptionForm → Op → Form
plain_with word option op =
    record { word = word; options = option ∷ []; slots = []; becomes = λ given. op }

-- a command with one other word
abbrev pub taking : List ℕ → Slot → (Given → Op) → Form
taking word slot becomes =
    record { word = word; options = []; slots = slot ∷ []; becomes = becomes }

-- a command with a file, which it needs
abbrev pub of_file : List ℕ → (List ℕ → Op) → Form
of_file word op =
    taking word (Needed kind.File) (λ given. needed (option_map op (file_in given)))

-- a command that writes to a file, if one is named
abbrev pub to_file : List ℕ → (Option (List ℕ) → Op) → Form
to_file word op = taking word (Optional kind.File) (λ given. op (file_in given))

-- a command with a name, which it needs
abbrev pub of_name : List ℕ → (List ℕ → Op) → Form
of_name word op =
    taking word (Needed kind.Name) (λ given. needed (option_map op (name_in given)))

-- a command for one name, if one is given, and otherwise for all
abbrev pub of_any_name : List ℕ → (Option (List ℕ) → Op) → Form
of_any_name word op = taking word (Optional kind.Name) (λ given. op (name_in given))

-- `eliminate [-l ROWS] T`
abbrev pub eliminate : Form
eliminate = record {
  word = codes "eliminate";
  options = valued letter_l (kind.Number 1 most_rows) ∷ [];
  slots = Needed kind.Integer ∷ [];
  becomes = eliminate_op;
}

-- `tech_decomp [-a N] [-o N]`
abbrev pub tech_decomp : Form
tech_decomp = record {
  word = codes "tech_decomp";
  options =
      valued letter_a (kind.Number least_inputs most_inputs)
      ∷ valued letter_o (kind.Number least_inputs most_inputs)
      ∷ [];
  slots = [];
  becomes = tech_decomp_op;
}

-- `gen SEED TABLES`
abbrev pub gen : Form
gen = record {
  word = codes "gen";
  options = [];
  slots =
      Needed (kind.Number 0 most_seed) ∷ Needed (kind.Number least_tables most_tables) ∷ [];
  becomes = generate_op;
}

-- `write_blif [-n] [FILE]`
abbrev pub write_blif : Form
write_blif = record {
  word = codes "write_blif";
  options = bare letter_n ∷ [];
  slots = Optional kind.File ∷ [];
  becomes = write_op;
}

-- `map [-m 0] [-s]`
abbrev pub mapping : Form
mapping = record {
  word = codes "map";
  options = valued letter_m (kind.Number 0 0) ∷ bare letter_s ∷ [];
  slots = [];
  becomes = map_op;
}

-- the commands of the shell, except `echo`, which takes any words
abbrev pub forms : List Form
forms =
    plain (codes "quit") Quit
    ∷ of_file (codes "read_blif") ReadBlif
    ∷ of_file (codes "read_kiss") ReadKiss
    ∷ of_file (codes "read_library") ReadLibrary
    ∷ gen
    ∷ write_blif
    ∷ to_file (codes "write_kiss") WriteKiss
    ∷ plain (codes "print_stats") PrintStats
    ∷ of_any_name (codes "print") Print
    ∷ plain (codes "print_latch") PrintLatch
    ∷ of_any_name (codes "print_factor") PrintFactor
    ∷ of_name (codes "print_kernel") PrintKernel
    ∷ plain (codes "undo") Undo
    ∷ of_file (codes "source") Source
    ∷ plain (codes "sweep") (Change change.Sweep)
    ∷ eliminate
    ∷ plain (codes "collapse") (Change change.Collapse)
    ∷ plain_with (codes "simplify") (valued letter_m kind.NoComplement) (Change change.Simplify)
    ∷ plain_with (codes "full_simplify") (valued letter_m kind.NoComplement)
    (Change change.FullSimplify)
    ∷ plain (codes "fx") (Change change.Fx)
    ∷ plain (codes "gkx") (Change change.Gkx)
    ∷ plain (codes "gcx") (Change change.Gcx)
    ∷ plain_with (codes "resub") (bare letter_a) (Change change.Resub)
    ∷ plain (codes "decomp") (Change change.Decomp)
    ∷ tech_decomp
    ∷ mapping
    ∷ taking (codes "state_assign") (Optional kind.Style) state_assign_op
    ∷ []

-- the command of a word
unfoldable pub form_named : List ℕ → Option Form
form_named word = find (λ (form : Form). bytes_eq word form.word) forms

-- a command by what its words give; a fault in the words refuses it
abbrev pub op_given : (Given → Op) → Result Given ScriptFault → Op
op_given becomes (Ok given) = becomes given
op_given becomes (Err fault) = Bad fault

-- a command by its form and its other words; unknown if there is no form
abbrev pub op_by_form : Option Form → List (List ℕ) → Op
op_by_form None words = Bad BadCommand
op_by_form (Some form) words = op_given form.becomes (parse form.options form.slots words)

-- a command by its first word and the others
unfoldable pub op_by : List ℕ → List (List ℕ) → Op
op_by word words =
    if bytes_eq word (codes "echo") then Echo words else op_by_form (form_named word) words

-- a command by its words
unfoldable pub op_of : List (List ℕ) → Op
op_of [] = Bad BadCommand
op_of (word ∷ words) = op_by word words

-- the command of a piece of a script
abbrev pub command_of : Entry → Command
command_of piece = record { line = piece.number; op = op_of piece.words }

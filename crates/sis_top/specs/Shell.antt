-- The command line of the shell, as the crate `clap` sees it. Source: the SIS manual (UCB/ERL
-- M92/41): the program takes a script by `-f FILE` or commands by `-c TEXT`; `-k` (go on after a
-- refused command) is this project's own. How words are split into flags and values is clap's,
-- whose own function of a command and its words is used as it is.
use Rattle.std.specs.Prelude.{◌≡◌, ◌⊎◌, Option, Some, None, List, [], codes, true}
use Rattle.clap.specs.Words.{App, Rule, Text, fault_of, first_of, matches_of, new_app, new_rule, with_rule}
use Rattle.clap.specs.declared.builder.action.ArgAction.TheVariants.{Set, SetTrue}

-- a command whose words are all arguments (the program's name is not among them), with no help flag
abbrev pub bare : App
bare = record (new_app (codes "sis")) {
  top = record (new_app (codes "sis")).top { no_binary_name = true; disable_help_flag = true };
}

-- `-k`: a flag
abbrev pub keep_rule : Rule
keep_rule = record (new_rule (codes "keep")) { short = Some 107; action = Some SetTrue }

-- `-f` and one value
abbrev pub file_rule : Rule
file_rule = record (new_rule (codes "file")) { short = Some 102; action = Some Set }

-- `-c` and one value
abbrev pub text_rule : Rule
text_rule = record (new_rule (codes "text")) { short = Some 99; action = Some Set }

-- the shell's command: `-k`, `-f FILE`, `-c TEXT`
abbrev pub shell : App
shell = with_rule (with_rule (with_rule bare keep_rule) file_rule) text_rule

-- the value of an argument in the words, if they give one
abbrev pub value_of : Text → List Text → Option Text
value_of argument words = first_of argument (matches_of shell words)

-- the words are accepted: clap finds no fault in them, and `-f` and `-c` are not both given
pub record AreTaken (words : List Text) : Type 0 where
  pub fit : fault_of shell words ≡ []
  pub one_script : (value_of (codes "file") words ≡ None) ⊎ (value_of (codes "text") words ≡ None)

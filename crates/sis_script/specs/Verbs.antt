-- What the rows of the code's table of commands mean. Only the private functions that use the table
-- need it; no public clause cites it. Source: the definition's list (Script.antt), whose words
-- these are.
use Rattle.std.specs.Prelude.{ℕ, Option, List, bytes_eq, find, option_map}
use Rattle.sis_script.specs.Script.{Form, needed, file_in, name_in, generate_op, eliminate_op, map_op, state_assign_op, tech_decomp_op, write_op}
use Rattle.sis_script.specs.declared.command.Op.{Op}
use Rattle.sis_script.specs.declared.command.Op.TheVariants.{Quit, ReadBlif, ReadKiss, ReadLibrary, WriteKiss, PrintStats, Print, PrintLatch, PrintFactor, PrintKernel, Change, Undo, Source}
use Rattle.sis_script.specs.declared.grammar.Given.{Given}
use Rattle.sis_script.specs.declared.forms.Verb.{Verb}
use Rattle.sis_script.specs.declared.forms.Verb.TheVariants as verb
use Rattle.sis_script.specs.declared.forms.CommandForm.{CommandForm}

-- what a verb makes of a command's words
abbrev pub op_made : Verb → Given → Op
op_made verb.Quit = λ given. Quit
op_made verb.ReadBlif = λ given. needed (option_map ReadBlif (file_in given))
op_made verb.ReadKiss = λ given. needed (option_map ReadKiss (file_in given))
op_made verb.ReadLibrary = λ given. needed (option_map ReadLibrary (file_in given))
op_made verb.Generate = generate_op
op_made verb.WriteBlif = write_op
op_made verb.WriteKiss = λ given. WriteKiss (file_in given)
op_made verb.PrintStats = λ given. PrintStats
op_made verb.Print = λ given. Print (name_in given)
op_made verb.PrintLatch = λ given. PrintLatch
op_made verb.PrintFactor = λ given. PrintFactor (name_in given)
op_made verb.PrintKernel = λ given. needed (option_map PrintKernel (name_in given))
op_made verb.Undo = λ given. Undo
op_made verb.Source = λ given. needed (option_map Source (file_in given))
op_made (verb.Plain change) = λ given. Change change
op_made verb.Eliminate = eliminate_op
op_made verb.TechDecomp = tech_decomp_op
op_made verb.StateAssign = state_assign_op
op_made verb.Map = map_op

-- a row of the code's table as the definition has it
abbrev pub meaning : CommandForm → Form
meaning form = record {
  word = form.word.now;
  options = form.options.now;
  slots = form.slots.now;
  becomes = op_made form.verb;
}

-- the row of a table with this word, if any
unfoldable pub form_among : List ℕ → List CommandForm → Option CommandForm
form_among word forms = find (λ (form : CommandForm). bytes_eq word form.word.now) forms

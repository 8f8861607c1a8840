use Rattle.std.proofs.Common.{sym, ◌∙◌, option_copied}
use Rattle.sis_text.specs.declared.read_fault.ReadFault.TheVariants.{Fault}
use Rattle.blif_models.specs.Reading.{sides_fault, made_fault}
use Rattle.blif_models.proofs.FirstRead.{marks_used, first_read, second_read}
use Rattle.blif_models.proofs.reading.read_by_tables.Goals as goal

pub returns-in-Some : goal.returns-in-Some
returns-in-Some c =
    let library = option_copied c.args.library in
    let models = c.args.file.now.models in
    first_read (Unit {0}) (Fault c.in-Some.fault) (sides_fault library models) (made_fault library models) _ (sym c.in_ok-fault.ensures ∙ c.in-Some.is)

pub read_made-requires-clause-used : goal.read_made-requires-clause-used
read_made-requires-clause-used c = marks_used c.args.file.now.models c.args.used.now c.requires.used

pub returns : goal.returns
returns c =
    let library = option_copied c.args.library in
    let models = c.args.file.now.models in
    second_read c.read_made.result (sides_fault library models) (made_fault library models) _ (sym c.in_ok-fault.ensures ∙ c.in_default.is) c.read_made.ensures

use Rattle.std.proofs.Common.{[], ◌∷◌, sym, ◌∙◌, option_copied}
use Rattle.sis_text.specs.declared.read_fault.ReadFault.TheVariants.{Fault}
use Rattle.blif_lines.specs.Lines.{first_of}
use Rattle.blif_models.specs.Reading.{nesting_fault, sides_fault, made_fault}
use Rattle.blif_models.proofs.FirstRead.{in_parts, first_read, second_read}
use Rattle.blif_models.proofs.reading.read_nested.Goals as goal

pub returns-in-Some : goal.returns-in-Some
returns-in-Some c =
    let library = option_copied c.args.library in
    let models = c.args.file.now.models in
    rw (in_parts library models)
    (first_read (Unit {0}) (Fault c.in-Some.fault) (nesting_fault models) (first_of (sides_fault library models ∷ made_fault library models ∷ [])) _ (sym c.in_ok-fault.ensures ∙ c.in-Some.is))

pub returns : goal.returns
returns c =
    let library = option_copied c.args.library in
    let models = c.args.file.now.models in
    rw (in_parts library models)
    (second_read c.read_by_tables.result (nesting_fault models) (first_of (sides_fault library models ∷ made_fault library models ∷ [])) _ (sym c.in_ok-fault.ensures ∙ c.in_default.is) c.read_by_tables.ensures)

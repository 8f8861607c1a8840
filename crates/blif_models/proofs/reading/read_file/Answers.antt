use Rattle.std.proofs.Common.{Err, [], sym, option_copied}
use Rattle.std.proofs.lemmas.Result.{err_from_is_err_and}
use Rattle.sis_text.specs.declared.read_fault.ReadFault.TheVariants.{Fault}
use Rattle.blif_models.specs.Reader.{file_fault, unknown_model, read_first}
use Rattle.blif_models.specs.Reading.{first_in}
use Rattle.sis_base.specs.declared.whole.Whole.{Whole}
use Rattle.blif_lines.specs.declared.draft.Draft.{Draft}
use Rattle.blif_models.proofs.FirstRead.{fault_read, passed_read, first_read, second_read}
use Rattle.blif_models.proofs.reading.read_file.Goals as goal

pub returns-in_err-draft : goal.returns-in_err-draft
returns-in_err-draft c =
    let p = err_from_is_err_and c.from_residual.result c.from_residual.ensures.1 in
    let models = c.args.file.now.models in
    rw (p.1, p.2) (first_read (Whole Draft) c.in_err-draft.field-0.0 (file_fault (option_copied c.args.library) [] models) (unknown_model models) _ c.in_err-draft.ensures.fault)

pub returns-in-Some : goal.returns-in-Some
returns-in-Some c =
    let library = option_copied c.args.library in
    let models = c.args.file.now.models in
    let whole = read_first library models (first_in models) in
    second_read (Err (Fault c.in-Some.fault)) (file_fault library [] models) (unknown_model models) whole c.in_ok-draft.ensures.fault (fault_read (Unit {0}) (Fault c.in-Some.fault) (unknown_model models) whole (sym c.in-Some.ensures))

pub returns : goal.returns
returns c =
    let models = c.args.file.now.models in
    second_read c.read_first.result (file_fault (option_copied c.args.library) [] models) (unknown_model models) _ c.in_ok-draft.ensures.fault (passed_read c.read_first.result (unknown_model models) _ (sym c.in_default.ensures) c.read_first.ensures)

use Rattle.std.proofs.Common.{[], ◌∙◌, option_copied}
use Rattle.std.proofs.lemmas.Result.{err_from_is_err_and}
use Rattle.sis_base.specs.declared.whole.Whole.{Whole}
use Rattle.blif_lines.specs.declared.draft.Draft.{Draft}
use Rattle.blif_models.proofs.CheckedLines.{first_checks, second_checks, both_pass}
use Rattle.blif_models.proofs.EarlierModels.{fault_in, fault_from, fault_first}
use Rattle.blif_models.specs.Reader.{file_fault}
use Rattle.blif_models.proofs.checking.checked_first.Goals as goal

pub returns-in_err-draft-clause-fault : goal.returns-in_err-draft-clause-fault
returns-in_err-draft-clause-fault c =
    let p = err_from_is_err_and c.from_residual.result c.from_residual.ensures.1 in
    let library = option_copied c.args.library in
    let models = c.args.file.now.models in
    rw (p.1, p.2) (first_checks (Whole Draft) (Whole Draft) c.in_err-draft.field-0.0 (fault_in library models 0) (fault_from library models 1) (file_fault library [] models) (fault_first library models) c.in_err-draft.ensures.fault)

pub returns-in_err-check_others-clause-fault : goal.returns-in_err-check_others-clause-fault
returns-in_err-check_others-clause-fault c =
    let p = err_from_is_err_and c.from_residual-in_err-check_others.result c.from_residual-in_err-check_others.ensures.1 in
    let library = option_copied c.args.library in
    let models = c.args.file.now.models in
    rw (p.1, p.2) (second_checks (Unit {0}) (Whole Draft) c.in_err-check_others.field-0.0 (fault_in library models 0) (fault_from library models 1) (file_fault library [] models) (fault_first library models) c.in_ok-draft.ensures.fault c.in_err-check_others.ensures)

pub returns-clause-fault : goal.returns-clause-fault
returns-clause-fault c =
    let library = option_copied c.args.library in
    let models = c.args.file.now.models in
    both_pass (fault_in library models 0) (fault_from library models 1) (file_fault library [] models) (fault_first library models) c.in_ok-draft.ensures.fault ∙ c.in_ok-check_others.ensures

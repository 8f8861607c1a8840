use Rattle.std.proofs.Common.{option_copied}
use Rattle.std.proofs.lemmas.Result.{err_from_is_err_and}
use Rattle.sis_base.specs.declared.whole.Whole.{Whole}
use Rattle.blif_lines.specs.declared.draft.Draft.{Draft}
use Rattle.blif_lines.specs.Steps.{no_lines}
use Rattle.blif_models.specs.Checking.{names_before}
use Rattle.blif_models.proofs.CheckedLines.{model_checks, model_passes, checked_taken}
use Rattle.blif_models.proofs.checking.checked_model.Goals as goal

pub returns-in_err-check_lines-clause-fault : goal.returns-in_err-check_lines-clause-fault
returns-in_err-check_lines-clause-fault c =
    let p = err_from_is_err_and c.from_residual-in_err-check_lines.result c.from_residual-in_err-check_lines.ensures.1 in
    let taken = rw (c.in_ok-draft.ensures, c.lines.ensures) at c.in_err-check_lines.ensures in
    rw (p.1, p.2) (model_checks (Whole Draft) (option_copied c.args.library) (names_before c.args.file.now.models c.args.place) _ c.check_lines.new.draft c.in_err-check_lines.field-0.0 taken)

pub returns-clause-fault : goal.returns-clause-fault
returns-clause-fault c =
    let taken = rw (c.in_ok-draft.ensures, c.lines.ensures) at c.in_ok-check_lines.ensures in
    model_passes (option_copied c.args.library) (names_before c.args.file.now.models c.args.place) _ c.check_lines.new.draft taken

pub returns-clause-draft : goal.returns-clause-draft
returns-clause-draft c =
    let taken = rw (c.in_ok-draft.ensures, c.lines.ensures) at c.in_ok-check_lines.ensures in
    checked_taken (option_copied c.args.library) (names_before c.args.file.now.models c.args.place) _ no_lines c.check_lines.new.draft taken

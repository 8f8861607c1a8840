use Rattle.std.proofs.Common.{sym, ◌∙◌, option_copied}
use Rattle.std.proofs.lemmas.Result.{err_from_is_err_and}
use Rattle.blif_models.specs.Checking.{names_before}
use Rattle.blif_models.proofs.CheckedLines.{walk_goes_on, walk_fails, walk_done}
use Rattle.blif_models.proofs.checking.check_lines.Goals as goal

pub returns-in_err-check_line : goal.returns-in_err-check_line
returns-in_err-check_line c =
    let p = err_from_is_err_and c.from_residual.result c.from_residual.ensures.1 in
    rw (p.1, p.2) (walk_fails (option_copied c.args.library) (names_before c.args.file.now.models c.args.place) c.in_err-check_line.field-0.0 c.loop-line.draft c.check_line.new.draft c.args.file.now.text c.args.lines.now c.loop-line.line-index c.line-item.result
    c.loop-line-test.true c.line-item.is c.in_err-check_line.ensures _ c.loop-line.invariant)

pub loop-line-preserved : goal.loop-line-preserved
loop-line-preserved c =
    walk_goes_on (option_copied c.args.library) (names_before c.args.file.now.models c.args.place) c.loop-line.draft c.check_line.new.draft c.args.file.now.text c.args.lines.now c.loop-line.line-index c.line-item.result c.loop-line-test.true c.line-item.is
    c.in_ok-check_line.ensures
    ∙ c.loop-line.invariant

pub returns : goal.returns
returns c =
    sym c.loop-line.invariant
    ∙ walk_done (option_copied c.args.library) (names_before c.args.file.now.models c.args.place) c.loop-line.draft c.args.file.now.text c.args.lines.now c.loop-line.line-index c.loop-line-test.false

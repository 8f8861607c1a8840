use Rattle.std.proofs.Common.{◌+◌, sym, ◌∙◌, arith, option_copied}
use Rattle.std.proofs.lemmas.Result.{err_from_is_err_and}
use Rattle.blif_models.proofs.CheckedLines.{first_checks, both_pass}
use Rattle.blif_models.proofs.EarlierModels.{fault_in, fault_from, fault_next, fault_end}
use Rattle.blif_models.proofs.checking.check_others.Goals as goal

pub returns-in_err-check_model : goal.returns-in_err-check_model
returns-in_err-check_model c =
    let p = err_from_is_err_and c.from_residual.result c.from_residual.ensures.1 in
    let count = c.count-place-end.ensures in
    let library = option_copied c.args.library in
    let models = c.args.file.now.models in
    let place = c.loop-place.place in
    rw (p.1, p.2) (first_checks (Unit {0}) (Unit {0}) c.in_err-check_model.field-0.0 (fault_in library models place) (fault_from library models (place + 1)) (fault_from library models 1)
    (sym c.loop-place.invariant ∙ fault_next library models place (omega (arith, c.loop-place-test.true, count))) c.in_err-check_model.ensures)

pub loop-place-preserved : goal.loop-place-preserved
loop-place-preserved c =
    let count = c.count-place-end.ensures in
    let library = option_copied c.args.library in
    let models = c.args.file.now.models in
    let place = c.loop-place.place in
    sym (both_pass (fault_in library models place) (fault_from library models (place + 1)) (fault_from library models place) (fault_next library models place (omega (arith, c.loop-place-test.true, count))) c.in_ok-check_model.ensures)
    ∙ c.loop-place.invariant

pub returns : goal.returns
returns c =
    let count = c.count-place-end.ensures in
    sym c.loop-place.invariant ∙ fault_end (option_copied c.args.library) c.args.file.now.models c.loop-place.place (omega (arith, c.loop-place-test.false, count))

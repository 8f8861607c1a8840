use Rattle.std.proofs.lemmas.Result.{err_from_is_err_and}
use Rattle.net_work.specs.Placed.{circuit_of}
use Rattle.net_extract.proofs.Steps.{end_told}
use Rattle.net_extract.proofs.extracting.extract.Goals as goal

pub returns-in_err-take_steps-clause-extracted : goal.returns-in_err-take_steps-clause-extracted
returns-in_err-take_steps-clause-extracted g c =
    let p = err_from_is_err_and c.from_residual-in_err-take_steps.result
    c.from_residual-in_err-take_steps.ensures.1 in
    rw (p.1, p.2) (end_told c.args.rule c.args.network.now
    (circuit_of c.in_ok-work.work) c.in_err-take_steps.field-0.0 c.in_ok-work.ensures.circuit
    c.in_err-take_steps.ensures.stopped)

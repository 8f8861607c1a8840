use Rattle.std.proofs.lemmas.Result.{err_from_is_err_and}
use Rattle.net_work.specs.Placed.{circuit_of}
use Rattle.net_extract.proofs.Steps.{unlisted_stopped}
use Rattle.net_extract.proofs.finding.best_by_savings.Goals as goal

pub returns-in_err-found-clause-stopped : goal.returns-in_err-found-clause-stopped
returns-in_err-found-clause-stopped g c =
    let p = err_from_is_err_and c.from_residual-in_err-found.result c.from_residual-in_err-found.ensures.1 in
    rw p.1 (unlisted_stopped c.args.rule (circuit_of c.args.work.now) c.in_err-found.field-0.0 p.0 p.2 c.in_err-found.ensures.stopped)

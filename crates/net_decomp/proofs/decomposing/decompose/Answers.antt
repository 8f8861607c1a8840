use Rattle.std.proofs.lemmas.Result.{err_from_is_err_and}
use Rattle.net_work.specs.Placed.{circuit_of}
use Rattle.net_decomp.proofs.Along.{full_told}
use Rattle.net_decomp.proofs.decomposing.decompose.Goals as goal

pub returns-in_err-part_all-clause-decomposed : goal.returns-in_err-part_all-clause-decomposed
returns-in_err-part_all-clause-decomposed g c =
    let p = err_from_is_err_and c.from_residual-in_err-part_all.result
    c.from_residual-in_err-part_all.ensures.1 in
    rw (p.1, p.2) (full_told c.args.rule c.args.network.now
    (circuit_of c.in_ok-work.work) c.in_err-part_all.field-0.0 c.in_ok-work.ensures.circuit
    c.in_err-part_all.ensures.full)

use Rattle.std.proofs.lemmas.Result.{err_from_is_err_and}
use Rattle.net_elim.proofs.Fanouts.{refused_among, listed}
use Rattle.net_elim.proofs.putting.all_made.Goals as goal

pub returns-in_err-push_made-clause-fault : goal.returns-in_err-push_made-clause-fault
returns-in_err-push_made-clause-fault g c =
    let p = err_from_is_err_and c.from_residual-in_err-push_made.result c.from_residual-in_err-push_made.ensures.1 in
    rw (p.1, p.2)
    (refused_among c.args.rows c.args.work.now c.args.inner.now c.in_err-push_made.field-0.0 _ (c.requires.there _ (listed c.args.readers.now c.loop-place.place-index 0 c.loop-place-test.true))
    c.in_err-push_made.ensures.fault)

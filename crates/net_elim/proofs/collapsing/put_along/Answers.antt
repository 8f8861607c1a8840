use Rattle.std.proofs.lemmas.Result.{err_from_is_err_and}
use Rattle.net_work.specs.Placed.{standing}
use Rattle.circuit_order.specs.Order.{order_of}
use Rattle.net_work.proofs.Along.{turn_there}
use Rattle.net_elim.specs.Collapsing.{with_put, put_refusal}
use Rattle.net_elim.proofs.Along.{turn_more, turn_refused}
use Rattle.net_elim.proofs.collapsing.put_along.Goals as goal

pub put_at-requires-clause-there : goal.put_at-requires-clause-there
put_at-requires-clause-there g c =
    turn_there with_put put_refusal (order_of (standing c.args.work.now.slots)) c.args.places.now c.loop-place.place-index c.args.work.now c.loop-place.work c.requires.order c.loop-place-test.true c.loop-place.invariant

pub returns-in_err-put_at-clause-fault : goal.returns-in_err-put_at-clause-fault
returns-in_err-put_at-clause-fault g c =
    let p = err_from_is_err_and c.from_residual.result c.from_residual.ensures.1 in
    rw (p.1, p.2)
    (turn_refused (order_of (standing c.args.work.now.slots)) c.args.places.now c.loop-place.place-index c.args.work.now c.loop-place.work c.requires.order c.loop-place-test.true c.loop-place.invariant c.in_err-put_at.field-0.0
    c.in_err-put_at.ensures.fault)

pub loop-place-preserved : goal.loop-place-preserved
loop-place-preserved g c =
    turn_more (order_of (standing c.args.work.now.slots)) c.args.places.now c.loop-place.place-index c.args.work.now c.loop-place.work c.put_at.new.work c.requires.order c.loop-place-test.true c.loop-place.invariant
    c.in_ok-put_at.ensures.put c.in_ok-put_at.ensures.within

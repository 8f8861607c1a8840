use Rattle.std.proofs.lemmas.Result.{err_from_is_err_and}
use Rattle.net_work.specs.Placed.{standing}
use Rattle.circuit_order.specs.Order.{order_of}
use Rattle.net_work.proofs.Along.{turn_there}
use Rattle.sdc_simplify.specs.Local.{is_local}
use Rattle.sdc_simplify.specs.Simplified.{with_minimum, minimum_refusal}
use Rattle.sdc_simplify.proofs.Along.{turn_more, turn_refused}
use Rattle.sdc_simplify.proofs.simplifying.minimize_along.Goals as goal

pub minimize_at-requires-clause-there : goal.minimize_at-requires-clause-there
minimize_at-requires-clause-there g c =
    turn_there (with_minimum is_local) minimum_refusal (order_of (standing c.args.work.now.slots)) c.args.places.now c.loop-place.place-index c.args.work.now c.loop-place.work c.requires.order c.loop-place-test.true c.loop-place.invariant

pub returns-in_err-minimize_at-clause-fault : goal.returns-in_err-minimize_at-clause-fault
returns-in_err-minimize_at-clause-fault g c =
    let p = err_from_is_err_and c.from_residual.result c.from_residual.ensures.1 in
    rw (p.1, p.2)
    (turn_refused (order_of (standing c.args.work.now.slots)) c.args.places.now c.loop-place.place-index c.args.work.now c.loop-place.work c.requires.order c.loop-place-test.true c.loop-place.invariant
    c.in_err-minimize_at.field-0.0 c.in_err-minimize_at.ensures.fault)

pub loop-place-preserved : goal.loop-place-preserved
loop-place-preserved g c =
    turn_more (order_of (standing c.args.work.now.slots)) c.args.places.now c.loop-place.place-index c.args.work.now c.loop-place.work c.minimize_at.new.work c.requires.order c.loop-place-test.true c.loop-place.invariant
    c.in_ok-minimize_at.ensures.minimized c.in_ok-minimize_at.ensures.within

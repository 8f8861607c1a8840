use Rattle.std.proofs.Common.{drop}
use Rattle.net_work.specs.Placed.{standing}
use Rattle.circuit_order.specs.Order.{order_of}
use Rattle.net_work.specs.Along.{IsAlong}
use Rattle.sdc_simplify.specs.Local.{is_local}
use Rattle.sdc_simplify.specs.Simplified.{with_minimum, minimum_refusal}
use Rattle.sdc_simplify.proofs.simplifying.minimize_along.Given as goal

abbrev pub invariant-loop-place : goal.invariant-loop-place
invariant-loop-place g l = IsAlong (with_minimum is_local) minimum_refusal (order_of (standing l.fn.work.slots)) (drop l.place-index (order_of (standing l.fn.work.slots))) l.fn.work l.work

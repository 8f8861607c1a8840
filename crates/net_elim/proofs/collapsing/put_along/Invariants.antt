use Rattle.std.proofs.Common.{drop}
use Rattle.net_work.specs.Placed.{standing}
use Rattle.circuit_order.specs.Order.{order_of}
use Rattle.net_work.specs.Along.{IsAlong}
use Rattle.net_elim.specs.Collapsing.{with_put, put_refusal}
use Rattle.net_elim.proofs.collapsing.put_along.Given as goal

abbrev pub invariant-loop-place : goal.invariant-loop-place
invariant-loop-place g l = IsAlong with_put put_refusal (order_of (standing l.fn.work.slots)) (drop l.place-index (order_of (standing l.fn.work.slots))) l.fn.work l.work

use Rattle.std.proofs.lemmas.Result.{on_ok_weaker}
use Rattle.net_work.specs.Placed.{standing}
use Rattle.net_work.proofs.Along.{along_none}
use Rattle.circuit_order.specs.Order.{order_of}
use Rattle.sdc_simplify.specs.Local.{is_local}
use Rattle.sdc_simplify.specs.Simplified.{with_minimum, minimum_refusal}
use Rattle.sdc_simplify.proofs.Along.{along_whole}
use Rattle.sdc_simplify.proofs.simplifying.minimize_all.Goals as goal

pub returns-clause-simplified : goal.returns-clause-simplified
returns-clause-simplified g c = on_ok_weaker c.minimize_along.result (λ along. along_whole c.args.work.now c.minimize_along.new.work along) c.minimize_along.ensures.along

pub returns-clause-none : goal.returns-clause-none
returns-clause-none g c = on_ok_weaker c.minimize_along.result (λ along. along_none (with_minimum is_local) minimum_refusal (order_of (standing c.args.work.now.slots)) c.args.work.now c.minimize_along.new.work along) c.minimize_along.ensures.along

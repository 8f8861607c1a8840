use Rattle.net_work.specs.Placed.{standing}
use Rattle.circuit_order.specs.Order.{order_of}
use Rattle.net_work.proofs.Along.{along_none}
use Rattle.net_elim.specs.Collapsing.{with_put, put_refusal}
use Rattle.net_elim.proofs.Leaving.{collapsed_whole}
use Rattle.net_elim.proofs.collapsing.collapse_tables.Goals as goal

pub returns-clause-collapsed : goal.returns-clause-collapsed
returns-clause-collapsed g c =
    collapsed_whole c.args.work.now c.put_all.new.work c.cut_inner.new.work c.requires c.in_ok-put_all.ensures.along c.in_ok-cut_inner.ensures.frame c.in_ok-cut_inner.ensures.tables

pub returns-clause-none : goal.returns-clause-none
returns-clause-none g c = along_none with_put put_refusal (order_of (standing c.args.work.now.slots)) c.args.work.now c.put_all.new.work c.in_ok-put_all.ensures.along

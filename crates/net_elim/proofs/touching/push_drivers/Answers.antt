use Rattle.net_elim.proofs.Touched.{grown_begun, grown_more}
use Rattle.net_elim.proofs.touching.push_drivers.Goals as goal

pub loop-name-init : goal.loop-name-init
loop-name-init g c = grown_begun c.args.work.now.slots c.args.places.now.items

pub loop-name-preserved : goal.loop-name-preserved
loop-name-preserved g c =
    grown_more c.args.work.now.slots c.args.names.now c.loop-name.name-index c.name-item.result c.args.places.now.items c.loop-name.places.items c.push_driver.new.places.items c.loop-name-test.true c.name-item.is c.loop-name.invariant
    c.in_ok-push_driver.ensures

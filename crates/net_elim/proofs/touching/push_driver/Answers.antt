use Rattle.std.proofs.Common.{sym}
use Rattle.net_elim.proofs.Touched.{driver_pushed, driver_missing}
use Rattle.net_elim.proofs.touching.push_driver.Goals as goal

pub returns-in-None : goal.returns-in-None
returns-in-None g c = driver_missing c.args.work.now c.args.name.now c.args.places.now.items (sym c.in-None.ensures.known)

pub returns-in_ok-push-in-Some : goal.returns-in_ok-push-in-Some
returns-in_ok-push-in-Some g c =
    driver_pushed c.args.work.now c.args.name.now c.args.places.now.items c.push.new.self.items c.in-Some.place c.requires c.in-Some.ensures.some c.in_ok-push-in-Some.ensures.items

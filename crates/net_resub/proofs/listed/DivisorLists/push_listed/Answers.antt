use Rattle.net_resub.specs.Listed.{is_under}
use Rattle.net_resub.proofs.Listing.{joined_next}
use Rattle.net_resub.proofs.listed.DivisorLists.push_listed.Goals as goal

pub loop-name-preserved : goal.loop-name-preserved
loop-name-preserved c =
    joined_next (is_under c.args.self.now) c.args.names.now c.loop-name.name-index c.name-item.result c.args.places.now.items c.loop-name.places.items c.push_under.new.places.items c.loop-name-test.true
    c.name-item.is c.loop-name.invariant c.in_ok-push_under.ensures

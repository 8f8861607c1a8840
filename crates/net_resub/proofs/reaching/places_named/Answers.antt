use Rattle.net_resub.proofs.Graph.{found_is, places_next, places_done}
use Rattle.net_resub.proofs.reaching.places_named.Goals as goal

pub loop-name-preserved : goal.loop-name-preserved
loop-name-preserved g c =
    places_next c.args.work.now.slots c.args.names.now c.loop-name.name-index c.name-item.result c.loop-name.places.items c.push_found.new.places.items _ c.place_of.result c.loop-name-test.true c.name-item.is
    (found_is c.args.work.now.slots c.name-item.result c.place_of.result c.requires c.place_of.ensures.some c.place_of.ensures.known) c.in_ok-push_found.ensures c.loop-name.invariant

pub returns : goal.returns
returns g c = places_done c.args.work.now.slots c.args.names.now c.loop-name.name-index c.loop-name.places.items _ c.loop-name-test.false c.loop-name.invariant

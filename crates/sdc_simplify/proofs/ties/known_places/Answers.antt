use Rattle.sdc_simplify.proofs.Places.{among_at}
use Rattle.sdc_simplify.proofs.ties.known_places.Goals as goal

pub known_place-requires : goal.known_place-requires
known_place-requires c = among_at c.args.names.now c.args.others.now c.loop-name.name-index c.name-item.result c.requires c.loop-name-test.true c.name-item.is

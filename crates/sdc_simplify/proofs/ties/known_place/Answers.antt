use Rattle.sdc_simplify.proofs.Places.{known}
use Rattle.sdc_simplify.proofs.ties.known_place.Goals as goal

pub unreachable-requires : goal.unreachable-requires
unreachable-requires c = known c.args.names.now c.args.name.now c.requires c.in-None.ensures

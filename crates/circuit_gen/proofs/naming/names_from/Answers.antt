use Rattle.std.proofs.Common.{◌+◌, refl}
use Rattle.circuit_gen.proofs.Numbers.{signals_more}
use Rattle.circuit_gen.proofs.naming.names_from.Goals as goal

pub loop-place-preserved : goal.loop-place-preserved
loop-place-preserved c =
    let more = signals_more c.args.first c.loop-place.place (c.args.first + c.loop-place.place) refl in cc (c.in_ok-push.ensures.items, c.in_ok-name_of.ensures)

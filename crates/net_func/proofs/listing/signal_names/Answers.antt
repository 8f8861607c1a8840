use Rattle.net_func.proofs.Circuits.{own_settled}
use Rattle.net_func.proofs.listing.signal_names.Goals as goal

pub order-requires : goal.order-requires
order-requires c = rw c.as_slice.ensures (own_settled c.args.circuit.now c.requires.sound).once

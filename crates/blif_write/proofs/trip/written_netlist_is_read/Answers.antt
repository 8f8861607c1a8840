use Rattle.blif_write.proofs.Netlists.{netlist_read}
use Rattle.blif_write.proofs.trip.written_netlist_is_read.Goals as goal

pub returns : goal.returns
returns c = netlist_read

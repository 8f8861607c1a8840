use Rattle.net_wires.proofs.Putting.{roots_are}
use Rattle.net_wires.proofs.needed.roots.Goals as goal

pub returns : goal.returns
returns c =
    roots_are c.args.circuit.now c.in_ok-names.names.keys c.add_names.new.names.keys c.as_slice.result.now c.as_slice.ensures c.in_ok-names.ensures c.in_ok-add_names.ensures

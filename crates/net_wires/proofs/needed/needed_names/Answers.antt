use Rattle.net_wires.proofs.Reached.{needed_reached}
use Rattle.net_wires.proofs.needed.needed_names.Goals as goal

pub reached-requires-clause-tables_differ : goal.reached-requires-clause-tables_differ
reached-requires-clause-tables_differ c = rw c.as_slice-tables.ensures c.requires.tables_differ

pub reached-requires-clause-latches_differ : goal.reached-requires-clause-latches_differ
reached-requires-clause-latches_differ c = rw c.as_slice-latches.ensures c.requires.latches_differ

pub returns : goal.returns
returns c =
    needed_reached c.args.circuit.now c.in_ok-begun.begun.keys c.as_slice-tables.result.now c.as_slice-latches.result.now c.in_ok-names.names.keys c.in_ok-begun.ensures c.as_slice-tables.ensures c.as_slice-latches.ensures
    c.in_ok-names.ensures

use Rattle.subject_tree.proofs.Standing.{standing_all}
use Rattle.subject_tree.proofs.judging.outer_names.Goals as goal

pub returns : goal.returns
returns c =
    standing_all c.args.circuit.now c.new-names.result.keys c.add_names.new.names.keys c.add_latch_inputs.new.names.keys c.add_constant_inputs.new.names.keys c.as_slice.result.now c.as_slice-2.result.now c.as_slice-3.result.now
    c.new-names.ensures.empty c.as_slice.ensures c.as_slice-2.ensures c.as_slice-3.ensures c.in_ok-add_names.ensures c.in_ok-add_latch_inputs.ensures c.in_ok-add_constant_inputs.ensures

use Rattle.std.proofs.Common.{rules}
use Rattle.map_net.proofs.Parting.{fault_maps, parts_map}
use Rattle.map_net.proofs.mapping.map_circuit.Goals as goal

pub returns-in_err-covered_of : goal.returns-in_err-covered_of
returns-in_err-covered_of c =
    fault_maps c.args.circuit.now c.args.library.now c.in_err-covered_of.field-0.0
    c.from_residual.result (search rules) c.in_err-covered_of.ensures

pub returns : goal.returns
returns c =
    parts_map c.args.circuit.now c.args.library.now c.in_ok-covered_of.field-0 c.parts_of.result
    c.in_ok-covered_of.ensures c.parts_of.ensures

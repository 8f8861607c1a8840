use Rattle.std.proofs.Common.{◌≡◌, take, bytes_eq}
use Rattle.indexmap.specs.IndexMap.{get}
use Rattle.net_wires.specs.Aliases.{edge_of, complement_marks}
use Rattle.net_wires.proofs.edges.complemented_inputs.Given as goal

abbrev pub invariant-loop-input : goal.invariant-loop-input
invariant-loop-input l = l.marks.items ≡ complement_marks (edge_of (get bytes_eq l.edges)) (take l.input-index l.inputs)

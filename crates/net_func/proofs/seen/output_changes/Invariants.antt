use Rattle.std.proofs.Common.{take, bytes_eq}
use Rattle.indexmap.specs.IndexMap.{get}
use Rattle.net_func.specs.Numbering.{number_in}
use Rattle.net_func.specs.Changes.{free_in, AreChanges}
use Rattle.net_func.proofs.seen.output_changes.Given as goal

-- the changes of the outputs so far
abbrev pub invariant-loop-output : goal.invariant-loop-output
invariant-loop-output l =
    AreChanges (number_in l.low) (number_in l.high) (free_in (number_in l.free)
    (get bytes_eq l.places))
    (take l.output-index l.outputs) l.changes.items

use Rattle.std.proofs.Common.{map, take}
use Rattle.circuit_model.specs.declared.circuit.Latch.{Latch}
use Rattle.net_func.specs.Numbering.{number_in, no_numbers}
use Rattle.net_func.specs.Changes.{AreChanges}
use Rattle.net_func.proofs.seen.latch_changes.Given as goal

-- the changes of the inputs of the latches so far
abbrev pub invariant-loop-latch : goal.invariant-loop-latch
invariant-loop-latch l =
    AreChanges (number_in l.low) (number_in l.high) no_numbers
    (map (λ (latch : Latch). latch.input) (take l.latch-index l.latches)) l.changes.items

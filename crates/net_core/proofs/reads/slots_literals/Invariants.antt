use Rattle.std.proofs.Common.{◌≡◌, ◌≤◌, ◌*◌, ◌^◌, length, take}
use Rattle.std.specs.List.{sum_by}
use Rattle.circuit_model.specs.Counts.{literals_of_table}
use Rattle.net_core.specs.Places.{present}
use Rattle.net_core.proofs.reads.slots_literals.Given as goal

abbrev pub invariant-loop-slot : goal.invariant-loop-slot
invariant-loop-slot g l = (l.total ≡ sum_by literals_of_table (present (take l.slot-index l.slots))) × (l.total ≤ length (present (take l.slot-index l.slots)) * 2 ^ 97)

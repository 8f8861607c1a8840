use Rattle.std.proofs.Common.{take}
use Rattle.net_core.specs.Places.{written_of}
use Rattle.net_work.specs.Placed.{circuit_of}
use Rattle.sdc_simplify.specs.Turns.{AreTied}
use Rattle.sdc_simplify.proofs.ties.ties_of.Given as goal

abbrev pub invariant-loop-place : goal.invariant-loop-place
invariant-loop-place g l = AreTied (circuit_of l.work) (written_of l.entry) (take l.place l.entry.table.inputs) l.ties.items

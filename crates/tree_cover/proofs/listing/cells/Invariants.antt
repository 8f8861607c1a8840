use Rattle.std.proofs.Common.{take}
use Rattle.tree_cover.specs.Listed.{AreCellsOf}
use Rattle.tree_cover.proofs.listing.cells.Given as goal

abbrev pub invariant-loop-gate : goal.invariant-loop-gate
invariant-loop-gate l = AreCellsOf (take l.gate-index l.gates) l.made.items

use Rattle.std.proofs.Common.{take}
use Rattle.pattern_set.specs.Cells.{AreGatesOf}
use Rattle.pattern_set.proofs.listing.patterns.Given as goal

abbrev pub invariant-loop-cell : goal.invariant-loop-cell
invariant-loop-cell l = AreGatesOf l.arena (take l.cell-index l.cells) l.gates

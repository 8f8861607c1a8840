use Rattle.std.proofs.Common.{◌≡◌, length}
use Rattle.tree_cover.specs.Outlines.{AreMarks}
use Rattle.tree_cover.proofs.outlines.marks_of.Given as goal

abbrev pub invariant-loop-outline : goal.invariant-loop-outline
invariant-loop-outline l = record { count : length l.made.items ≡ l.outline; marks : AreMarks l.outlines l.nodes l.number l.made.items }

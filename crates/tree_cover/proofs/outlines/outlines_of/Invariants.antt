use Rattle.std.proofs.Common.{◌≡◌, length}
use Rattle.tree_cover.specs.Outlines.{AreOutlines}
use Rattle.tree_cover.proofs.outlines.outlines_of.Given as goal

abbrev pub invariant-loop-pattern : goal.invariant-loop-pattern
invariant-loop-pattern l = record { count : length l.numbers.items ≡ l.pattern; outlines : AreOutlines l.arena l.shapes l.numbers.items }

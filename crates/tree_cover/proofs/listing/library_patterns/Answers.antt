use Rattle.std.proofs.Common.{List, subst}
use Rattle.pattern_set.specs.declared.cells.Cell.{Cell}
use Rattle.pattern_set.specs.Cells.{AreGatesOf}
use Rattle.tree_cover.proofs.EachGate.{patterns_had}
use Rattle.tree_cover.proofs.listing.library_patterns.Goals as goal

pub returns : goal.returns
returns c =
    patterns_had c.in_ok-made.made.arena c.args.library.now c.in_ok-cells.cells.items c.in_ok-made.made.gates c.in_ok-cells.ensures
    (subst (λ (cells : List Cell). AreGatesOf c.in_ok-made.made.arena cells c.in_ok-made.made.gates) c.as_slice.ensures.value c.in_ok-made.ensures)

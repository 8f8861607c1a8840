use Rattle.std.proofs.Common.{◌≡◌, take}
use Rattle.net_wires.specs.Aliases.{row_over}
use Rattle.net_wires.proofs.edges.row_over.Given as goal

abbrev pub invariant-loop-i : goal.invariant-loop-i
invariant-loop-i l = l.made ≡ row_over l.marks (take l.i l.row)

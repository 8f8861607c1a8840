use Rattle.std.proofs.Common.{◌≡◌, map, take}
use Rattle.net_wires.specs.Aliases.{row_over}
use Rattle.net_wires.proofs.edges.rows_over.Given as goal

abbrev pub invariant-loop-row : goal.invariant-loop-row
invariant-loop-row l = l.made.items ≡ map (row_over l.marks) (take l.row-index l.rows)

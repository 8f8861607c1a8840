use Rattle.std.proofs.Common.{◌≡◌, ◌++◌, drop}
use Rattle.circuit_tables.specs.Tidy.{chosen}
use Rattle.circuit_tables.proofs.tidying.chosen_row.Given as goal

abbrev pub invariant-loop-i : goal.invariant-loop-i
invariant-loop-i l = l.made ++ chosen (drop l.i l.marks) (drop l.i l.row) ≡ chosen l.marks l.row

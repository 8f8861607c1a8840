use Rattle.std.proofs.Common.{◌≡◌, map, take}
use Rattle.circuit_tables.specs.Tidy.{chosen}
use Rattle.circuit_tables.proofs.tidying.chosen_rows.Given as goal

abbrev pub invariant-loop-row : goal.invariant-loop-row
invariant-loop-row l = l.made.items ≡ map (chosen l.marks) (take l.row-index l.rows)

use Rattle.std.proofs.Common.{◌≡◌, ◌+◌, ◌≤◌, drop}
use Rattle.cube_cover.specs.Literals.{row_literals}
use Rattle.cube_cover.proofs.row.Row.literal_count.Given as goal

abbrev pub invariant-loop-column : goal.invariant-loop-column
invariant-loop-column g l = (l.count + row_literals (drop l.column (g.Self.Row.literals l.self)) ≡ row_literals (g.Self.Row.literals l.self)) × (l.count ≤ l.column)

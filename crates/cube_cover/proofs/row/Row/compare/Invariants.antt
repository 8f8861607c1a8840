use Rattle.std.proofs.Common.{◌≡◌, drop}
use Rattle.cube_cover.specs.Literals.{row_cmp}
use Rattle.cube_cover.proofs.row.Row.compare.Given as goal

abbrev pub invariant-loop-column : goal.invariant-loop-column
invariant-loop-column g l = row_cmp (g.Self.Row.literals l.self) (g.Self.Row.literals l.other) ≡ row_cmp (drop l.column (g.Self.Row.literals l.self)) (drop l.column (g.Self.Row.literals l.other))

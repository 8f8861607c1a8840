use Rattle.cube_cover.proofs.Turned.{IsKept}
use Rattle.cube_cover.proofs.row.Row.keep.Given as goal

abbrev pub invariant-loop-column : goal.invariant-loop-column
invariant-loop-column g l = IsKept (g.Self.Row.literals l.self) l.places (g.Self.Row.literals l.row) l.column

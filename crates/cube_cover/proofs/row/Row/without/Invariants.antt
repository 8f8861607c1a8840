use Rattle.cube_cover.specs.Covers.{without_of}
use Rattle.cube_cover.proofs.Turned.{IsTurned}
use Rattle.cube_cover.proofs.row.Row.without.Given as goal

abbrev pub invariant-loop-column : goal.invariant-loop-column
invariant-loop-column g l = IsTurned (g.Self.Row.literals l.self) (without_of (g.Self.Row.literals l.self) (g.Self.Row.literals l.mask)) (g.Self.Row.literals l.row) l.column

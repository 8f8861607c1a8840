use Rattle.cube_cover.specs.Covers.{product_of}
use Rattle.cube_cover.proofs.Turned.{IsTurned}
use Rattle.cube_cover.proofs.row.Row.overlaid.Given as goal

abbrev pub invariant-loop-column : goal.invariant-loop-column
invariant-loop-column g l = IsTurned (g.Self.Row.literals l.self) (product_of (g.Self.Row.literals l.self) (g.Self.Row.literals l.other)) (g.Self.Row.literals l.row) l.column

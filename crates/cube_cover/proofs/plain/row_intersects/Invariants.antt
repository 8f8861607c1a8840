use Rattle.std.proofs.Common.{◌≡◌, drop}
use Rattle.cube_cover.specs.Literals.{rows_intersect}
use Rattle.cube_cover.proofs.plain.row_intersects.Given as goal

abbrev pub invariant-loop-i : goal.invariant-loop-i
invariant-loop-i l = rows_intersect l.literals l.others ≡ rows_intersect (drop l.i l.literals) (drop l.i l.others)

use Rattle.std.proofs.Common.{◌≡◌, drop}
use Rattle.cube_cover.specs.Literals.{row_contains}
use Rattle.cube_cover.proofs.plain.contains_literals.Given as goal

abbrev pub invariant-loop-i : goal.invariant-loop-i
invariant-loop-i l = row_contains l.literals l.others ≡ row_contains (drop l.i l.literals) (drop l.i l.others)

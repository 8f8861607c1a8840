use Rattle.std.proofs.Common.{◌≡◌, ◌++◌, drop}
use Rattle.cube_cover.specs.Covers.{product_of}
use Rattle.cube_cover.proofs.plain.product_literals.Given as goal

abbrev pub invariant-loop-i : goal.invariant-loop-i
invariant-loop-i l = l.made ++ product_of (drop l.i l.literals) (drop l.i l.others) ≡ product_of l.literals l.others

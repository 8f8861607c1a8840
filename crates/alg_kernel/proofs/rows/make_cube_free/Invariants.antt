use Rattle.std.proofs.Common.{◌≡◌, map, take}
use Rattle.alg_div.specs.Steps.{strip, literals_in}
use Rattle.alg_kernel.proofs.rows.make_cube_free.Given as goal

abbrev pub invariant-loop-row : goal.invariant-loop-row
invariant-loop-row l = literals_in l.made.items ≡ map (strip l.cube.items) (literals_in (take l.row-index l.rows))

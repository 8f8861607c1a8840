use Rattle.std.proofs.Common.{◌≡◌, length, drop}
use Rattle.alg_div.specs.Steps.{literals_in}
use Rattle.alg_kernel.specs.Search.{common_cube_from, common_cube}
use Rattle.alg_kernel.proofs.rows.common_of.Given as goal

abbrev pub invariant-loop-row : goal.invariant-loop-row
invariant-loop-row l = record {
  shared_literal : common_cube_from l.cube.items (literals_in (drop l.row-index l.rows)) ≡ common_cube (literals_in l.rows);
  wide : length l.cube.items ≡ l.width;
}

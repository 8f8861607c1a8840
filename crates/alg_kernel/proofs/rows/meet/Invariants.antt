use Rattle.std.proofs.Common.{◌≡◌, ◌++◌, take, drop}
use Rattle.alg_kernel.specs.Search.{both_rows}
use Rattle.alg_kernel.proofs.rows.meet.Given as goal

abbrev pub invariant-loop-place : goal.invariant-loop-place
invariant-loop-place l = l.cube.items ≡ take l.place (both_rows l.fn.cube.items l.row) ++ drop l.place l.fn.cube.items

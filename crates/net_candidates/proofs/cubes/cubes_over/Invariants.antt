use Rattle.std.proofs.Common.{◌≡◌, map, take}
use Rattle.cover_names.specs.Literals.{sorted_cube}
use Rattle.cover_names.specs.Cubes.{cube_over}
use Rattle.net_candidates.proofs.cubes.cubes_over.Given as goal

abbrev pub invariant-loop-row : goal.invariant-loop-row
invariant-loop-row g l = l.cubes.items ≡ map (λ row. sorted_cube (cube_over l.names row)) (map g.R.Row.literals (take l.row-index l.rows))

use Rattle.std.proofs.Common.{◌≡◌, map, take}
use Rattle.alg_div.specs.Steps.{literals_in}
use Rattle.cover_names.specs.Cubes.{row_over}
use Rattle.alg_tables.proofs.dividing.rows_over.Given as goal

abbrev pub invariant-loop-cube : goal.invariant-loop-cube
invariant-loop-cube l = literals_in l.rows.items ≡ map (row_over l.names) (take l.cube-index l.cover)

use Rattle.std.proofs.Common.{◌≡◌, map, take}
use Rattle.cover_names.specs.Cubes.{cube_over}
use Rattle.net_resub.proofs.pairs.row_cubes.Given as goal

abbrev pub invariant-loop-row : goal.invariant-loop-row
invariant-loop-row g l = l.cubes.items ≡ map (cube_over l.entry.table.inputs) (map g.R.Row.literals (take l.row-index l.rows))

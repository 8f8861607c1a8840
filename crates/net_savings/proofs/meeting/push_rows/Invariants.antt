use Rattle.std.proofs.Common.{◌≡◌, ◌++◌, map, take}
use Rattle.cover_names.specs.Literals.{sorted_cube}
use Rattle.cover_names.specs.Cubes.{cube_over}
use Rattle.net_savings.proofs.meeting.push_rows.Given as goal

abbrev pub invariant-loop-row : goal.invariant-loop-row
invariant-loop-row g l = l.rows.items ≡ l.fn.rows.items ++ map (λ row. sorted_cube (cube_over l.table.inputs row)) (map g.R.Row.literals (take l.row-index l.row-items))

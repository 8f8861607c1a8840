use Rattle.std.proofs.Common.{◌≡◌}
use Rattle.cover_names.specs.Cubes.{cube_over}
use Rattle.net_resub.specs.Pairs.{is_cube_over}
use Rattle.net_resub.proofs.Over.{rest_over}
use Rattle.net_resub.proofs.pairs.is_row_over.Given as goal

abbrev pub invariant-loop-place : goal.invariant-loop-place
invariant-loop-place g l = is_cube_over l.names (cube_over l.inputs (g.R.Row.literals l.row)) ≡ rest_over l.names l.inputs (g.R.Row.literals l.row) l.place

use Rattle.std.proofs.Common.{◌≡◌, leb, map, drop}
use Rattle.std.specs.List.{list_all}
use Rattle.cube_cover.specs.Literals.{row_literals}
use Rattle.net_decomp.proofs.gates.all_within.Given as goal

abbrev pub invariant-loop-row : goal.invariant-loop-row
invariant-loop-row g l =
    list_all (λ row. leb (row_literals row) l.most) (map g.R.Row.literals (drop l.row-index l.rows)) ≡ list_all (λ row. leb (row_literals row) l.most) (map g.R.Row.literals l.rows)

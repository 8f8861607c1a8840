use Rattle.std.proofs.Common.{◌≡◌, eqb, map, drop}
use Rattle.std.specs.List.{list_all}
use Rattle.cube_cover.specs.Literals.{row_literals}
use Rattle.net_decomp.proofs.gates.all_single.Given as goal

abbrev pub invariant-loop-row : goal.invariant-loop-row
invariant-loop-row g l =
    list_all (λ row. eqb (row_literals row) 1) (map g.R.Row.literals (drop l.row-index l.rows)) ≡ list_all (λ row. eqb (row_literals row) 1) (map g.R.Row.literals l.rows)

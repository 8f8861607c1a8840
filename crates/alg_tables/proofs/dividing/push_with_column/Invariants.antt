use Rattle.std.proofs.Common.{◌≡◌, ◌++◌, ◌∷◌, [], map, take}
use Rattle.alg_div.specs.Steps.{literals_in}
use Rattle.alg_tables.proofs.dividing.push_with_column.Given as goal

abbrev pub invariant-loop-row : goal.invariant-loop-row
invariant-loop-row g l = literals_in l.made.items ≡ literals_in l.initial.made.items ++ map (λ row. row ++ l.place ∷ []) (map g.R.Row.literals (take l.row-index l.rows))

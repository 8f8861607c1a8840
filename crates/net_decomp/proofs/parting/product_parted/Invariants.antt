use Rattle.std.proofs.Common.{◌≡◌, true, Some, [], ◌∷◌, ◌++◌, map, take}
use Rattle.net_decomp.specs.Rules.{first_literals, later_literals}
use Rattle.net_decomp.proofs.parting.product_parted.Given as goal

abbrev pub invariant-loop-row : goal.invariant-loop-row
invariant-loop-row g l = record {
  first : map g.R.Row.literals l.first.items ≡ map (first_literals l.most) (map g.R.Row.literals (take l.row-index l.rows));
  later : map g.R.Row.literals l.later.items ≡ map (λ row. later_literals l.most row ++ Some true ∷ []) (map g.R.Row.literals (take l.row-index l.rows));
}

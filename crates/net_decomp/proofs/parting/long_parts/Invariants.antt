use Rattle.std.proofs.Common.{◌≡◌, [], ◌∷◌, ◌++◌, map, filter, drop}
use Rattle.net_decomp.specs.Rules.{is_long}
use Rattle.net_decomp.proofs.parting.long_parts.Given as goal

abbrev pub invariant-loop-row : goal.invariant-loop-row
invariant-loop-row g l =
    map (λ part. map g.R.Row.literals part.items) l.parts.items ++ map (λ row. row ∷ []) (filter is_long (map g.R.Row.literals (drop l.row-index l.rows)))
    ≡ map (λ row. row ∷ []) (filter is_long (map g.R.Row.literals l.rows))

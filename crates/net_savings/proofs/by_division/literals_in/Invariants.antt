use Rattle.std.proofs.Common.{◌≡◌, map, take}
use Rattle.net_candidates.proofs.Products.{literals_in_all}
use Rattle.net_savings.proofs.by_division.literals_in.Given as goal

abbrev pub invariant-loop-row : goal.invariant-loop-row
invariant-loop-row g l =
    l.count ≡ literals_in_all (map g.R.Row.literals (take l.row-index l.rows))

use Rattle.std.proofs.Common.{◌≡◌, map, take}
use Rattle.net_candidates.proofs.Sums.{AreOnce}
use Rattle.net_savings.proofs.by_rows.are_distinct.Given as goal

abbrev pub invariant-loop-row : goal.invariant-loop-row
invariant-loop-row g l = record {
  keys : l.seen.keys ≡ map g.R.Row.literals (take l.row-index l.rows);
  once : AreOnce (map g.R.Row.literals (take l.row-index l.rows));
}

use Rattle.std.proofs.Common.{◌≡◌, map, take}
use Rattle.std.specs.List.{AllByRecursion}
use Rattle.net_decomp.specs.Sums.{sum_rows, IsBelow}
use Rattle.net_decomp.proofs.sums.literals_in.Given as goal

abbrev pub invariant-loop-row : goal.invariant-loop-row
invariant-loop-row g l = record {
  below : AllByRecursion (IsBelow l.width) l.made.items;
  rows : map g.R.Row.literals (take l.row-index l.rows) ≡ sum_rows l.width l.made.items;
}

use Rattle.std.proofs.Common.{◌≡◌, map, drop}
use Rattle.std.specs.List.{list_any}
use Rattle.net_decomp.specs.Rules.{is_long}
use Rattle.net_decomp.proofs.gates.some_long.Given as goal

abbrev pub invariant-loop-row : goal.invariant-loop-row
invariant-loop-row g l = list_any is_long (map g.R.Row.literals (drop l.row-index l.rows)) ≡ list_any is_long (map g.R.Row.literals l.rows)

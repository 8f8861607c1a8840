use Rattle.std.proofs.Common.{◌≡◌, ◌++◌, map, take}
use Rattle.net_decomp.specs.Rules.{padded}
use Rattle.net_decomp.proofs.rows.push_padded.Given as goal

abbrev pub invariant-loop-row : goal.invariant-loop-row
invariant-loop-row g l = map g.R.Row.literals l.made.items ≡ map g.R.Row.literals l.fn.made.items ++ map (padded l.added) (map g.R.Row.literals (take l.row-index l.rows))

use Rattle.std.proofs.Common.{◌≡◌, map, take}
use Rattle.net_gains.specs.Numbers.{lists_in, rising_from}
use Rattle.net_gains.proofs.rows.cubes_over.Given as goal

abbrev pub invariant-loop-row : goal.invariant-loop-row
invariant-loop-row g l = lists_in l.cubes.items ≡ map (rising_from l.signals) (map g.R.Row.literals (take l.row-index l.rows))

use Rattle.std.proofs.Common.{◌≡◌, map, take}
use Rattle.net_wires.specs.Rules.{renamed}
use Rattle.net_sweep.proofs.rows.names_renamed.Given as goal

abbrev pub invariant-loop-name : goal.invariant-loop-name
invariant-loop-name l = l.made.items ≡ map (renamed l.from l.to) (take l.name-index l.names)

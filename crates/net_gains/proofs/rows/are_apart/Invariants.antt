use Rattle.std.proofs.Common.{◌≡◌, drop}
use Rattle.circuit_tables.specs.Folding.{each_once}
use Rattle.circuit_tables.specs.Listing.{names_with}
use Rattle.net_gains.specs.Numbers.{lists_in}
use Rattle.net_gains.proofs.rows.are_apart.Given as goal

abbrev pub invariant-loop-cube : goal.invariant-loop-cube
invariant-loop-cube l = names_with l.seen.keys (drop l.cube-index (lists_in l.cubes)) ≡ each_once (lists_in l.cubes)

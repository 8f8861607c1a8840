use Rattle.std.proofs.Common.{◌≡◌, drop}
use Rattle.net_gains.specs.Mixing.{mixed_with}
use Rattle.net_gains.proofs.mixing.mixed.Given as goal

abbrev pub invariant-loop-at : goal.invariant-loop-at
invariant-loop-at l = mixed_with l.made (drop l.at l.numbers) ≡ mixed_with 1 l.numbers

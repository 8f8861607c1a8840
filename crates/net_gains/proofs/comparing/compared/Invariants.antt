use Rattle.std.proofs.Common.{◌≡◌, ◌≤◌, drop, length}
use Rattle.std.specs.Prelude.{min}
use Rattle.net_gains.specs.CodedGains.{numbers_cmp}
use Rattle.net_gains.proofs.comparing.compared.Given as goal

abbrev pub invariant-loop-at : goal.invariant-loop-at
invariant-loop-at l = (l.both ≡ min (length l.one) (length l.other)) × (l.at ≤ l.both) × (numbers_cmp (drop l.at l.one) (drop l.at l.other) ≡ numbers_cmp l.one l.other)

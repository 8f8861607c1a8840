use Rattle.std.proofs.Common.{◌≡◌}
use Rattle.kiss_format.specs.Reader.{made_names}
use Rattle.kiss_format.proofs.whole.made_names.Given as goal

abbrev pub invariant-loop-number : goal.invariant-loop-number
invariant-loop-number l = l.names ≡ made_names l.prefix l.number

use Rattle.std.proofs.Common.{◌≡◌, ◌++◌}
use Rattle.net_decomp.proofs.stepping.joined.Given as goal

abbrev pub invariant-loop-name : goal.invariant-loop-name
invariant-loop-name l = l.made ≡ l.fn.names ++ l.yielded

use Rattle.std.proofs.Common.{◌≡◌, ◌++◌}
use Rattle.net_savings.proofs.sharing.push_cubes.Given as goal

abbrev pub invariant-loop-cube : goal.invariant-loop-cube
invariant-loop-cube l = l.cubes.items ≡ l.fn.cubes.items ++ l.yielded

use Rattle.std.proofs.Common.{◌≡◌, ◌++◌, take}
use Rattle.state_code.proofs.encoding.leaves_of.Given as goal

abbrev pub invariant-loop-name : goal.invariant-loop-name
invariant-loop-name l = l.names ≡ l.machine.inputs ++ take l.name-index l.states

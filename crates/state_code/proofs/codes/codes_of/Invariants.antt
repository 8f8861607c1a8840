use Rattle.std.proofs.Common.{◌≡◌, take}
use Rattle.state_code.specs.Codes.{codes_from}
use Rattle.state_code.proofs.codes.codes_of.Given as goal

abbrev pub invariant-loop-number : goal.invariant-loop-number
invariant-loop-number l = l.codes.items ≡ codes_from l.style l.width 0 (take l.number l.states)

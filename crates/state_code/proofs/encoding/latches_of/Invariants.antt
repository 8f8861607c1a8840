use Rattle.std.proofs.Common.{◌≡◌, take}
use Rattle.state_code.specs.Encoded.{latches_from}
use Rattle.state_code.proofs.encoding.latches_of.Given as goal

abbrev pub invariant-loop-bit : goal.invariant-loop-bit
invariant-loop-bit l = l.latches.items ≡ latches_from l.coding.style l.machine.reset 0
    (take l.bit l.inputs) (take l.bit l.outputs)

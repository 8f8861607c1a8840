use Rattle.std.proofs.Common.{◌≡◌}
use Rattle.state_code.specs.Codes.{code_of}
use Rattle.state_code.proofs.codes.code_of.Given as goal

abbrev pub invariant-loop-bit : goal.invariant-loop-bit
invariant-loop-bit l = l.bits.items ≡ code_of l.style l.bit l.state

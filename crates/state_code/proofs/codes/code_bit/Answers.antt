use Rattle.std.proofs.Common.{arith}
use Rattle.state_code.proofs.CodesApart.{high_bit}
use Rattle.state_code.proofs.codes.code_bit.Goals as goal

pub returns-else-bit-lt64 : goal.returns-else-bit-lt64
returns-else-bit-lt64 c = high_bit c.args.style c.args.state c.args.bit c.in-Natural.is
    (omega arith) c.if-bit-lt64.false

use Rattle.std.proofs.Common.{arith}
use Rattle.state_code.proofs.CodesApart.{found_here, found_later, found_last}
use Rattle.state_code.proofs.codes.least_bits.Goals as goal

pub returns-then-count-bits : goal.returns-then-count-bits
returns-then-count-bits c = found_here c.args.count c.loop-bits.bits c.loop-bits.invariant.within
    c.loop-bits.invariant.found c.loop-bits-test.true c.if-count-bits.true

pub loop-bits-preserved : goal.loop-bits-preserved
loop-bits-preserved c =
    let later = found_later c.args.count c.loop-bits.bits c.loop-bits.invariant.within
    c.loop-bits.invariant.found c.loop-bits-test.true c.if-count-bits.false in
    record { within = later.0; found = later.1 }

pub returns : goal.returns
returns c = found_last c.args.count c.loop-bits.bits c.loop-bits.invariant.within
    c.loop-bits.invariant.found (omega arith) (omega arith)

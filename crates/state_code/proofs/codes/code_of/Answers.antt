use Rattle.state_code.proofs.Steps.{bits_more}
use Rattle.state_code.proofs.codes.code_of.Goals as goal

pub loop-bit-preserved : goal.loop-bit-preserved
loop-bit-preserved c = let more = bits_more c.args.style c.args.state c.loop-bit.bit in cc
    (c.in_ok-push.ensures.items, c.code_bit.ensures)

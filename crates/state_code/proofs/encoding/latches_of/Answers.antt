use Rattle.std.proofs.Common.{◌∙◌}
use Rattle.state_code.proofs.Steps.{latches_more, latches_none}
use Rattle.state_code.proofs.encoding.latches_of.Goals as goal

pub loop-bit-init : goal.loop-bit-init
loop-bit-init c = c.in_ok-latches.ensures.items
    ∙ latches_none c.args.coding.style c.args.machine.now.reset 0

pub loop-bit-preserved : goal.loop-bit-preserved
loop-bit-preserved c =
    let more = latches_more c.args.coding.style c.args.machine.now.reset c.loop-bit.bit
    c.args.inputs.now c.args.outputs.now
    c.index-inputs-bit.result c.index-outputs-bit.result c.requires c.loop-bit-test.true
    c.index-inputs-bit.is c.index-outputs-bit.is in
    cc (
      c.in_ok-push.ensures.items,
      c.in_ok-copy.ensures,
      c.in_ok-copy-2.ensures,
      c.init_of.ensures,
      c.code_bit.ensures,
    )

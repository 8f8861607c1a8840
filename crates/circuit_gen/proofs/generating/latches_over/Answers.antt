use Rattle.circuit_gen.proofs.Numbers.{latches_more}
use Rattle.circuit_gen.proofs.generating.latches_over.Goals as goal

pub loop-place-preserved : goal.loop-place-preserved
loop-place-preserved c =
    let more = latches_more c.args.tables c.loop-place.place in cc (c.in_ok-push.ensures.items, c.in_ok-latch_at.ensures)

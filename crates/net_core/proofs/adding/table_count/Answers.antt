use Rattle.std.proofs.Common.{◌≡◌, ◌+◌, refl, ap, ◌∙◌, length, take, [], ◌∷◌, arith}
use Rattle.std.proofs.lemmas.List.{length-append}
use Rattle.net_core.specs.Places.{present}
use Rattle.net_core.proofs.Indexing.{present_more}
use Rattle.net_core.proofs.adding.table_count.Goals as goal

pub loop-slot-init : goal.loop-slot-init
unfolding present
loop-slot-init g c = (refl, omega arith)

pub loop-slot-preserved : goal.loop-slot-preserved
loop-slot-preserved g c =
    let more : length (present (take (c.loop-slot.slot-index + 1) c.args.slots.now)) ≡ length (present (take c.loop-slot.slot-index c.args.slots.now)) + length (present (c.slot-item.result ∷ [])) =
    ap length (present_more c.args.slots.now c.loop-slot.slot-index c.slot-item.result c.loop-slot-test.true c.slot-item.is)
    ∙ length-append (present (take c.loop-slot.slot-index c.args.slots.now)) (present (c.slot-item.result ∷ [])) in
    (omega (arith, more, c.loop-slot.invariant.0, c.slot_count-count.ensures.count), omega (arith, c.loop-slot.invariant.1, c.slot_count-count.ensures.bound))

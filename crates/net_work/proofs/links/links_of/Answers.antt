use Rattle.std.proofs.Common.{Option, Some, take, sym, ap, ◌∙◌, subst, arith}
use Rattle.net_core.specs.declared.places.Entry.{Entry}
use Rattle.net_core.proofs.Lookups.{get_at}
use Rattle.net_work.specs.Slots.{written_slots, AreLinked}
use Rattle.net_work.proofs.Kept.{once_slot, written_more, written_long}
use Rattle.net_work.proofs.links.links_of.Goals as goal

pub link_slot-requires : goal.link_slot-requires
link_slot-requires g c =
    once_slot c.args.slots.now c.loop-place.place c.index-slots-place.result c.requires
    (get_at c.args.slots.now c.loop-place.place c.index-slots-place.result c.loop-place-test.true ∙ ap (λ (x : Option (Entry g.row.R.Denot)). Some x) (sym c.index-slots-place.is))

pub loop-place-preserved : goal.loop-place-preserved
loop-place-preserved g c =
    subst (AreLinked c.link_slot.new.links) (sym (written_more c.args.slots.now c.loop-place.place c.index-slots-place.result c.loop-place-test.true c.index-slots-place.is))
    (c.in_ok-link_slot.ensures (written_slots (take c.loop-place.place c.args.slots.now)) c.loop-place.invariant (written_long c.args.slots.now c.loop-place.place (omega (arith, c.loop-place-test.true))))

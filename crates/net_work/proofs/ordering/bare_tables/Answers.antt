use Rattle.std.proofs.Common.{List, map, take, ap, ◌∙◌, sym, ◌++◌, ◌∷◌, []}
use Rattle.std.proofs.lemmas.List.{map-append}
use Rattle.circuit_model.specs.declared.circuit.Table.{Table}
use Rattle.net_core.specs.Places.{present}
use Rattle.net_core.proofs.Indexing.{present_more}
use Rattle.net_work.specs.Slots.{bare}
use Rattle.net_work.proofs.ordering.bare_tables.Goals as goal

pub loop-slot-init : goal.loop-slot-init
unfolding present
loop-slot-init g c = c.in_ok-made.ensures.items

pub loop-slot-preserved : goal.loop-slot-preserved
loop-slot-preserved g c =
    c.in_ok-push_bare.ensures
    ∙ (ap (λ (ts : List Table). ts ++ map bare (present (c.slot-item.result ∷ []))) c.loop-slot.invariant
    ∙ (sym (map-append bare (present (take c.loop-slot.slot-index c.args.slots.now)) (present (c.slot-item.result ∷ [])))
    ∙ ap (map bare) (sym (present_more c.args.slots.now c.loop-slot.slot-index c.slot-item.result c.loop-slot-test.true c.slot-item.is))))

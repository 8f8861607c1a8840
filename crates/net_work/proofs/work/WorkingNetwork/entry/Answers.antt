use Rattle.std.proofs.Common.{◌≡◌, List, Option, Some, true, slice_get, length, sym, ap, ◌∙◌}
use Rattle.std.proofs.lemmas.Bool.{ltb-true}
use Rattle.circuit_model.specs.Names.{all_different}
use Rattle.net_core.specs.Tables.{IsOverInputs}
use Rattle.net_core.specs.declared.places.Entry.{Entry}
use Rattle.net_core.proofs.Lookups.{get_at}
use Rattle.net_work.proofs.Kept.{if_mapped, slot_over, slot_once}
use Rattle.net_work.proofs.work.WorkingNetwork.entry.Goals as goal

pub returns-in-Some-clause-over : goal.returns-in-Some-clause-over
returns-in-Some-clause-over g c =
    if_mapped _ (λ (entry : Entry g.row.R.Denot). IsOverInputs entry.table) c.as_ref.result c.in-Some.slot.now c.as_ref.ensures.value
    (slot_over c.self.inside.slots.items c.args.place c.in-Some.slot.now c.self.invariant.over
    (ap (λ (slots : List (Option (Entry g.row.R.Denot))). slice_get slots c.args.place) (sym c.deref.ensures.value)
    ∙ (get_at c.deref.result.now c.args.place c.in-Some.slot.now (ltb-true c.args.place (length c.deref.result.now) (sym c.in-Some.ensures.lookup.0)) ∙ ap (λ (x : Option (Entry g.row.R.Denot)). Some x) (sym c.in-Some.ensures.lookup.1))))

pub returns-in-Some-clause-once : goal.returns-in-Some-clause-once
returns-in-Some-clause-once g c =
    if_mapped _ (λ (entry : Entry g.row.R.Denot). all_different entry.table.inputs ≡ true) c.as_ref.result c.in-Some.slot.now c.as_ref.ensures.value
    (slot_once c.self.inside.slots.items c.args.place c.in-Some.slot.now c.self.invariant.once
    (ap (λ (slots : List (Option (Entry g.row.R.Denot))). slice_get slots c.args.place) (sym c.deref.ensures.value)
    ∙ (get_at c.deref.result.now c.args.place c.in-Some.slot.now (ltb-true c.args.place (length c.deref.result.now) (sym c.in-Some.ensures.lookup.0)) ∙ ap (λ (x : Option (Entry g.row.R.Denot)). Some x) (sym c.in-Some.ensures.lookup.1))))

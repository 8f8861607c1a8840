use Rattle.std.proofs.Common.{List, ap, ◌∙◌, sym, ◌++◌, ◌∷◌, []}
use Rattle.circuit_model.specs.Names.{has}
use Rattle.circuit_model.specs.Soundness.{outputs_of}
use Rattle.circuit_model.specs.declared.circuit.Table.{Table}
use Rattle.net_core.specs.Places.{present}
use Rattle.net_core.proofs.Indexing.{present_more, next_present_is_new, next_over}
use Rattle.net_core.proofs.network.tables_copied.Goals as goal

pub loop-slot-init : goal.loop-slot-init
unfolding present
loop-slot-init g c = c.new-made.ensures

pub push_copy-requires-clause-new : goal.push_copy-requires-clause-new
push_copy-requires-clause-new g c =
    λ q h. ap (λ (ts : List Table). has (outputs_of ts) q) c.loop-slot.invariant
    ∙ next_present_is_new c.args.slots.now c.loop-slot.slot-index c.slot-item.result c.requires.distinct c.loop-slot-test.true c.slot-item.is q h

pub push_copy-requires-clause-over : goal.push_copy-requires-clause-over
push_copy-requires-clause-over g c = next_over c.args.slots.now c.loop-slot.slot-index c.slot-item.result c.requires.over c.loop-slot-test.true c.slot-item.is

pub loop-slot-preserved : goal.loop-slot-preserved
loop-slot-preserved g c =
    c.in_ok-push_copy.ensures
    ∙ (ap (λ (ts : List Table). ts ++ present (c.slot-item.result ∷ [])) c.loop-slot.invariant
    ∙ sym (present_more c.args.slots.now c.loop-slot.slot-index c.slot-item.result c.loop-slot-test.true c.slot-item.is))

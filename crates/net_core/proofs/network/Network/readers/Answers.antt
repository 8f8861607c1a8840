use Rattle.std.proofs.Common.{ℕ, List, ap, ◌∙◌, sym, ◌++◌, ◌∷◌, [], take}
use Rattle.circuit_model.specs.declared.circuit.Table.{Table}
use Rattle.net_core.specs.Places.{present}
use Rattle.net_core.specs.Reads.{readers_of}
use Rattle.net_core.proofs.Counting.{readers-append}
use Rattle.net_core.proofs.Indexing.{present_more}
use Rattle.net_core.proofs.network.Network.readers.Goals as goal

pub loop-slot-init : goal.loop-slot-init
unfolding present readers_of
loop-slot-init g c = c.new-made.ensures.items

pub loop-slot-preserved : goal.loop-slot-preserved
loop-slot-preserved g c =
    c.in_ok-push_reader.ensures
    ∙ (ap (λ (names : List (List ℕ)). names ++ readers_of (present (c.slot-item.result ∷ [])) c.args.name.now) c.loop-slot.invariant
    ∙ (sym (readers-append (present (take c.loop-slot.slot-index c.slots-slot-items.result.now)) (present (c.slot-item.result ∷ [])) c.args.name.now)
    ∙ ap (λ (ts : List Table). readers_of ts c.args.name.now) (sym (present_more c.slots-slot-items.result.now c.loop-slot.slot-index c.slot-item.result c.loop-slot-test.true c.slot-item.is))))

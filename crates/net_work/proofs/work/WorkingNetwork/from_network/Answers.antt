use Rattle.std.proofs.Common.{◌≡◌, List, Option, true, bytes_eq, sym, ap, ◌∙◌, subst}
use Rattle.std.specs.List.{AllByRecursion}
use Rattle.indexmap.specs.IndexMap.{get}
use Rattle.circuit_model.specs.Names.{all_different}
use Rattle.circuit_model.specs.declared.circuit.Table.{Table}
use Rattle.circuit_model.specs.declared.circuit.Circuit.{Circuit}
use Rattle.circuit_laws.specs.Edits.{with_tables}
use Rattle.net_core.specs.declared.places.Entry.{Entry}
use Rattle.net_work.specs.Placed.{standing}
use Rattle.net_work.specs.Slots.{written_slots, AreLinked, AreOnce}
use Rattle.net_work.proofs.Kept.{once_present, kept_made}
use Rattle.net_work.proofs.Standing.{standing_present}
use Rattle.net_work.proofs.work.WorkingNetwork.from_network.Goals as goal

pub links_of-requires : goal.links_of-requires
links_of-requires g c =
    subst (λ (slots : List (Option (Entry g.row.R.Denot))). AreOnce slots) (sym c.as_slice.ensures.value)
    (once_present c.into_parts-frame.result.slots.items
    (subst (λ (circuit : Circuit). AllByRecursion (λ (t : Table). all_different t.inputs ≡ true) circuit.tables) c.into_parts-frame.ensures.circuit c.sound.ensures.table_inputs_once))

pub invariant_of-result : goal.invariant_of-result
invariant_of-result g c =
    rw c.into_it.ensures (kept_made c.in_ok-frame.frame c.into_parts-frame.result.slots.items (get bytes_eq c.into_parts-frame.result.places) c.in_ok-links.links c.into_parts-frame.ensures.indexed c.into_parts-frame.ensures.over
    (once_present c.into_parts-frame.result.slots.items
    (subst (λ (circuit : Circuit). AllByRecursion (λ (t : Table). all_different t.inputs ≡ true) circuit.tables) c.into_parts-frame.ensures.circuit c.sound.ensures.table_inputs_once))
    (subst (λ (slots : List (Option (Entry g.row.R.Denot))). AreLinked c.in_ok-links.links (written_slots slots)) c.as_slice.ensures.value c.in_ok-links.ensures))

pub returns-clause-circuit : goal.returns-clause-circuit
returns-clause-circuit g c =
    ap (λ (circuit : Circuit). with_tables circuit (standing (written_slots c.into_parts-frame.result.slots.items))) c.in_ok-frame.ensures
    ∙ (ap (with_tables c.into_parts-frame.result.frame) (standing_present c.into_parts-frame.result.slots.items) ∙ sym c.into_parts-frame.ensures.circuit)

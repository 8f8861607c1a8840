-- The view that contracts have of a network after a change.
use Rattle.std.proofs.Common.{◌≡◌, ℕ, Bool, Option, Some, None, List, [], ◌∷◌, ◌++◌, set, slice_get, is_some, sym, ap, ◌∙◌}
use Rattle.std.proofs.lemmas.Option.{same_Some}
use Rattle.circuit_model.specs.Names.{has}
use Rattle.circuit_model.specs.Soundness.{outputs_of}
use Rattle.circuit_model.specs.declared.circuit.Table.{Table}
use Rattle.circuit_model.specs.declared.circuit.Circuit.{Circuit}
use Rattle.circuit_laws.specs.Edits.{with_tables}
use Rattle.net_core.specs.Fresh.{bracketed, used_names}
use Rattle.net_core.specs.Places.{present, written_of, IsIndexed}
use Rattle.net_core.specs.Tables.{named}
use Rattle.net_core.specs.declared.places.Entry.{Entry}
use Rattle.net_core.specs.declared.table.CoverTable.{CoverTable}
use Rattle.net_core.proofs.Indexing.{known_name}
use Rattle.net_work.specs.Placed.{Placed, circuit_of, table_at, with_slot, with_last}
use Rattle.net_work.specs.Slots.{written_slots}
use Rattle.net_work.proofs.Kept.{written_push}
use Rattle.net_work.proofs.Standing.{standing_present, written_set, table_there}

module _ {R : Type 0} where
  -- the network of an interface and of entries in slots
  abbrev pub view_of : Circuit → List (Option (Entry R)) → Placed
  view_of frame slots = record { frame = frame; slots = written_slots slots }

  seen : (frame : Circuit) (slots next : List (Option (Entry R))) (placed : Placed) (others : List (Option Table)) → view_of frame slots ≡ placed → written_slots next ≡ others → view_of frame next ≡ record placed { slots = others }
  seen frame slots next placed others view is = ap (λ (p : Placed). record p { slots = written_slots next }) view ∙ ap (λ (ss : List (Option Table)). record placed { slots = ss }) is

  pub view_set : (frame : Circuit) (slots next : List (Option (Entry R))) (i : ℕ) (old : Entry R) (table : CoverTable R) (placed : Placed) → view_of frame slots ≡ placed → slice_get slots i ≡ Some (Some old)
      → next ≡ set slots i (Some (record { output = old.output; table = table })) → (t : Table) → table_at placed.slots i ≡ Some t → view_of frame next ≡ with_slot placed i (Some (named t.output table))
  unfolding named
  view_set frame slots next i old table placed view at is t stands =
      let there : table_at placed.slots i ≡ Some (written_of old) = ap (λ (p : Placed). table_at p.slots i) (sym view) ∙ table_there slots i old at in
      let same : written_of old ≡ t = same_Some (written_of old) t (sym there ∙ stands) in
      seen frame slots next placed (set placed.slots i (Some (named t.output table))) view
      (ap (λ (ss : List (Option (Entry R))). written_slots ss) is
      ∙ (written_set slots i (Some (record { output = old.output; table = table }))
      ∙ (ap (λ (p : Placed). set p.slots i (Some (named old.output table))) view ∙ ap (λ (x : Table). set placed.slots i (Some (named x.output table))) same)))

  pub view_gone : (frame : Circuit) (slots next : List (Option (Entry R))) (i : ℕ) (placed : Placed) → view_of frame slots ≡ placed → next ≡ set slots i None → view_of frame next ≡ with_slot placed i None
  view_gone frame slots next i placed view is =
      seen frame slots next placed (set placed.slots i None) view
      (ap (λ (ss : List (Option (Entry R))). written_slots ss) is ∙ (written_set slots i None ∙ ap (λ (p : Placed). set p.slots i None) view))

  pub view_added : (frame : Circuit) (slots next : List (Option (Entry R))) (e : Entry R) (placed : Placed) → view_of frame slots ≡ placed → next ≡ slots ++ Some e ∷ [] → view_of frame next ≡ with_last placed (written_of e)
  view_added frame slots next e placed view is =
      seen frame slots next placed (placed.slots ++ Some (written_of e) ∷ []) view
      (ap (λ (ss : List (Option (Entry R))). written_slots ss) is ∙ (written_push slots e ∙ ap (λ (p : Placed). p.slots ++ Some (written_of e) ∷ []) view))

  -- whether a number in brackets is used
  pub used_there : (frame : Circuit) (slots : List (Option (Entry R))) (f : List ℕ → Option ℕ) → IsIndexed slots f → (placed : Placed) → view_of frame slots ≡ placed → (name : List ℕ) (number : ℕ) (used : Bool) → name ≡ bracketed number
      → ((tables : List Table) → is_some (f name) ≡ has (outputs_of tables) name → used ≡ has (used_names (with_tables frame tables)) name) → used ≡ has (used_names (circuit_of placed)) (bracketed number)
  used_there frame slots f h placed view name number used is told =
      told (present slots) (known_name slots f h name)
      ∙ (ap (λ (ts : List Table). has (used_names (with_tables frame ts)) name) (sym (standing_present slots))
      ∙ (ap (λ (p : Placed). has (used_names (circuit_of p)) name) view ∙ ap (has (used_names (circuit_of placed))) is))

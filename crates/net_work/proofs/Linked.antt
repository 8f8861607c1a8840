-- Fanouts and uses that stay those of the tables in slots.
use Rattle.std.proofs.Common.{◌≡◌, ℕ, ◌+◌, ◌≤◌, ◌==◌, Bool, true, false, if◌then◌else◌, Option, Some, None, List, [], ◌∷◌, ◌++◌, length, set, refl, sym, ap, ◌∙◌, arith}
use Rattle.std.proofs.lemmas.Bool.{eqb-true}
use Rattle.circuit_model.specs.Names.{has}
use Rattle.circuit_model.specs.declared.circuit.Table.{Table}
use Rattle.net_readers.specs.Fanouts.{Inputs, told, with_inputs, AreReaders}
use Rattle.net_core.specs.Reads.{uses_in, uses_of}
use Rattle.net_work.specs.Uses.{told_uses}
use Rattle.net_work.specs.Placed.{standing, table_at}
use Rattle.net_work.specs.Slots.{inputs_in, inputs_at, AreLinked}
use Rattle.net_work.specs.declared.links.Links.{Links}
use Rattle.net_work.proofs.Standing.{place_there, inputs_set, inputs_push, past_last, slot_uses, uses_push, uses_set, uses_there}

-- if the same names are read at each index
readers_same : (told : List ℕ → ℕ → Bool) (some others : Inputs) → ((at : ℕ) → some at ≡ others at) → AreReaders told some → AreReaders told others
readers_same told some others same all name place = all name place ∙ ap (λ (ns : List (List ℕ)). has ns name) (same place)

pub linked_none : (links : Links) → AreReaders (told links.readers) (λ place. []) → ((name : List ℕ) → told_uses links.uses name ≡ 0) → AreLinked links []
unfolding uses_of standing
linked_none links readers uses = record { readers = readers_same (told links.readers) (λ place. []) (inputs_at []) (λ at. refl) readers; uses = uses }

pub linked_push : (old new : Links) (slots : List (Option Table)) (x : Option Table) → AreLinked old slots
    → ((inputs : Inputs) → AreReaders (told old.readers) inputs → inputs (length slots) ≡ [] → AreReaders (told new.readers) (with_inputs inputs (length slots) (inputs_in x)))
    → ((name : List ℕ) → told_uses new.uses name ≡ told_uses old.uses name + slot_uses name x) → AreLinked new (slots ++ x ∷ [])
linked_push old new slots x h readers uses = record {
  readers = readers_same (told new.readers) (with_inputs (inputs_at slots) (length slots) (inputs_in x)) (inputs_at (slots ++ x ∷ [])) (inputs_push slots x) (readers (inputs_at slots) h.readers (past_last slots));
  uses = λ name. omega (arith, uses name, h.uses name, uses_push name slots x);
}

-- an empty slot
pub linked_gap : (links : Links) (slots : List (Option Table)) → AreLinked links slots → AreLinked links (slots ++ None ∷ [])
linked_gap links slots h =
    linked_push links links slots None h
    (λ inputs all none. readers_same (told links.readers) inputs (with_inputs inputs (length slots) []) (λ at. gap inputs none at) all) (λ name. omega arith)
  where
    gap : (inputs : Inputs) → inputs (length slots) ≡ [] → (at : ℕ) → inputs at ≡ with_inputs inputs (length slots) [] at
    gap inputs none at = cases (length slots == at) refl
      where
        cases : (b : Bool) → (length slots == at) ≡ b → inputs at ≡ (if b then [] else inputs at)
        cases true e = ap inputs (sym (eqb-true (length slots) at e)) ∙ none
        cases false e = refl

pub linked_set : (old mid new : Links) (slots : List (Option Table)) (i : ℕ) (t : Table) (x : Option Table) → AreLinked old slots → table_at slots i ≡ Some t
    → ((inputs : Inputs) → AreReaders (told old.readers) inputs → inputs i ≡ t.inputs → AreReaders (told new.readers) (with_inputs inputs i (inputs_in x)))
    → ((name : List ℕ) → told_uses mid.uses name + uses_in name t ≡ told_uses old.uses name) → ((name : List ℕ) → told_uses new.uses name ≡ told_uses mid.uses name + slot_uses name x)
    → AreLinked new (set slots i x)
linked_set old mid new slots i t x h at readers less more = record {
  readers = readers_same (told new.readers) (with_inputs (inputs_at slots) i (inputs_in x)) (inputs_at (set slots i x)) (inputs_set slots i (Some t) x (place_there slots i t at))
      (readers (inputs_at slots) h.readers (ap inputs_in at));
  uses = λ name. omega (arith, less name, more name, h.uses name, uses_set name slots i (Some t) x (place_there slots i t at));
}

-- the uses of a table in a slot are counted
pub counted : (links : Links) (slots : List (Option Table)) (i : ℕ) (t : Table) → AreLinked links slots → table_at slots i ≡ Some t → (name : List ℕ) → uses_in name t ≤ told_uses links.uses name
counted links slots i t h at name = omega (arith, h.uses name, uses_there name slots i (Some t) (place_there slots i t at))

-- The tables in slots: after a push, a write and a removal, and what they read and use.
use Rattle.std.proofs.Common.{◌≡◌, ℕ, ◌+◌, ◌≤◌, ◌==◌, zero, suc, Bool, true, false, if◌then◌else◌, Option, Some, None, List, [], ◌∷◌, ◌++◌, length, set, slice_get, is_some, refl, sym, ap, ◌∙◌, arith}
use Rattle.std.specs.Option.{option_map}
use Rattle.std.proofs.lemmas.Bool.{false≢true, eqb-true, eqb-false}
use Rattle.std.proofs.lemmas.List.{map-set}
use Rattle.std.proofs.lemmas.List.Sums.{sum_by-cons}
use Rattle.std.proofs.lemmas.Option.{same_Some, slice_get-map}
use Rattle.circuit_model.specs.Soundness.{outputs_of}
use Rattle.circuit_model.specs.declared.circuit.Table.{Table}
use Rattle.net_readers.specs.Fanouts.{with_inputs}
use Rattle.net_core.specs.Places.{present, written_of}
use Rattle.net_core.specs.Reads.{uses_in, uses_of}
use Rattle.net_core.specs.declared.places.Entry.{Entry}
use Rattle.net_core.proofs.Lookups.{get_set_same, get_set_other}
use Rattle.net_work.specs.Placed.{standing, joined, table_at}
use Rattle.net_work.specs.Slots.{written_slots, inputs_in, inputs_at}

-- a slot that has a table
pub place_there : (slots : List (Option Table)) (i : ℕ) (t : Table) → table_at slots i ≡ Some t → slice_get slots i ≡ Some (Some t)
place_there slots i t h = cases (slice_get slots i) refl
  where
    cases : (o : Option (Option Table)) → slice_get slots i ≡ o → slice_get slots i ≡ Some (Some t)
    cases None e = absurd (let z : None ≡ Some t = sym (ap joined e) ∙ h in cc)
    cases (Some None) e = absurd (let z : None ≡ Some t = sym (ap joined e) ∙ h in cc)
    cases (Some (Some s)) e = e ∙ ap (λ (x : Table). Some (Some x)) (same_Some s t (sym (ap joined e) ∙ h))

-- what is read at each index
pub inputs_set : (slots : List (Option Table)) (i : ℕ) (old x : Option Table) → slice_get slots i ≡ Some old → (at : ℕ)
    → with_inputs (inputs_at slots) i (inputs_in x) at ≡ inputs_at (set slots i x) at
inputs_set slots i old x h at = cases (i == at) refl
  where
    cases : (b : Bool) → (i == at) ≡ b → (if b then inputs_in x else inputs_at slots at) ≡ inputs_at (set slots i x) at
    cases true e = ap (λ (o : Option (Option Table)). inputs_in (joined o)) (sym (get_set_same slots i old x h) ∙ ap (slice_get (set slots i x)) (eqb-true i at e))
    cases false e = ap (λ (o : Option (Option Table)). inputs_in (joined o)) (sym (get_set_other slots i at x (λ same. eqb-false i at e (sym same))))

push_at : (slots : List (Option Table)) (x : Option Table) (at : ℕ) → joined (slice_get (slots ++ x ∷ []) at) ≡ (if length slots == at then x else joined (slice_get slots at))
push_at [] x zero = refl
push_at [] x (suc at) = let z : (0 == suc at) ≡ false = apart in rw z refl
  where
    apart : (0 == suc at) ≡ false
    apart = cases (0 == suc at) refl
      where
        cases : (b : Bool) → (0 == suc at) ≡ b → (0 == suc at) ≡ false
        cases true e = absurd (let z : 0 ≡ suc at = eqb-true 0 (suc at) e in omega (arith, z))
        cases false e = e
push_at (s ∷ slots) x zero = let z : (suc (length slots) == 0) ≡ false = apart in rw z refl
  where
    apart : (suc (length slots) == 0) ≡ false
    apart = cases (suc (length slots) == 0) refl
      where
        cases : (b : Bool) → (suc (length slots) == 0) ≡ b → (suc (length slots) == 0) ≡ false
        cases true e = absurd (let z : suc (length slots) ≡ 0 = eqb-true (suc (length slots)) 0 e in omega (arith, z))
        cases false e = e
push_at (s ∷ slots) x (suc at) = push_at slots x at ∙ ap (λ (b : Bool). if b then x else joined (slice_get slots at)) (sym same)
  where
    same : (suc (length slots) == suc at) ≡ (length slots == at)
    same = cases (suc (length slots) == suc at) refl (length slots == at) refl
      where
        cases : (a : Bool) → (suc (length slots) == suc at) ≡ a → (b : Bool) → (length slots == at) ≡ b → (suc (length slots) == suc at) ≡ (length slots == at)
        cases true e true f = e ∙ sym f
        cases false e false f = e ∙ sym f
        cases true e false f = absurd (eqb-false (length slots) at f (let z : suc (length slots) ≡ suc at = eqb-true (suc (length slots)) (suc at) e in omega (arith, z)))
        cases false e true f = absurd (eqb-false (suc (length slots)) (suc at) e (let z : length slots ≡ at = eqb-true (length slots) at f in omega (arith, z)))

pub inputs_push : (slots : List (Option Table)) (x : Option Table) (at : ℕ) → with_inputs (inputs_at slots) (length slots) (inputs_in x) at ≡ inputs_at (slots ++ x ∷ []) at
inputs_push slots x at = cases (length slots == at) refl
  where
    cases : (b : Bool) → (length slots == at) ≡ b → (if b then inputs_in x else inputs_at slots at) ≡ inputs_in (joined (slice_get (slots ++ x ∷ []) at))
    cases true e = ap inputs_in (sym (push_at slots x at ∙ ap (λ (b : Bool). if b then x else joined (slice_get slots at)) e))
    cases false e = ap inputs_in (sym (push_at slots x at ∙ ap (λ (b : Bool). if b then x else joined (slice_get slots at)) e))

-- nothing is read after the last slot
pub past_last : (slots : List (Option Table)) → inputs_at slots (length slots) ≡ []
past_last [] = refl
past_last (s ∷ slots) = past_last slots

-- how often a signal is used by the table of a slot
abbrev pub slot_uses : List ℕ → Option Table → ℕ
slot_uses name None = 0
slot_uses name (Some t) = uses_in name t

uses_cons : (name : List ℕ) (x : Option Table) (slots : List (Option Table)) → uses_of (standing (x ∷ slots)) name ≡ slot_uses name x + uses_of (standing slots) name
unfolding uses_of standing
uses_cons name None slots = omega arith
uses_cons name (Some t) slots = sum_by-cons (uses_in name) t (standing slots)

uses_nothing : (name : List ℕ) → uses_of (standing []) name ≡ 0
unfolding uses_of standing
uses_nothing name = refl

pub uses_push : (name : List ℕ) (slots : List (Option Table)) (x : Option Table) → uses_of (standing (slots ++ x ∷ [])) name ≡ uses_of (standing slots) name + slot_uses name x
uses_push name [] x = omega (arith, uses_cons name x [], uses_nothing name)
uses_push name (s ∷ slots) x = omega (arith, uses_cons name s (slots ++ x ∷ []), uses_cons name s slots, uses_push name slots x)

pub uses_set : (name : List ℕ) (slots : List (Option Table)) (i : ℕ) (old x : Option Table) → slice_get slots i ≡ Some old
    → uses_of (standing (set slots i x)) name + slot_uses name old ≡ uses_of (standing slots) name + slot_uses name x
uses_set name [] i old x h = absurd (let z : None ≡ Some old = h in cc)
uses_set name (s ∷ slots) zero old x h =
    let same : slot_uses name s ≡ slot_uses name old = ap (slot_uses name) (same_Some s old h) in
    omega (arith, uses_cons name x slots, uses_cons name s slots, same)
uses_set name (s ∷ slots) (suc i) old x h = omega (arith, uses_cons name s (set slots i x), uses_cons name s slots, uses_set name slots i old x h)

pub uses_there : (name : List ℕ) (slots : List (Option Table)) (i : ℕ) (x : Option Table) → slice_get slots i ≡ Some x → slot_uses name x ≤ uses_of (standing slots) name
uses_there name [] i x h = absurd (let z : None ≡ Some x = h in cc)
uses_there name (s ∷ slots) zero x h = let same : slot_uses name s ≡ slot_uses name x = ap (slot_uses name) (same_Some s x h) in omega (arith, uses_cons name s slots, same)
uses_there name (s ∷ slots) (suc i) x h = omega (arith, uses_cons name s slots, uses_there name slots i x h)

-- a table replaced by one of the same name
pub outputs_set : (slots : List (Option Table)) (i : ℕ) (old new : Table) → slice_get slots i ≡ Some (Some old) → new.output ≡ old.output → outputs_of (standing (set slots i (Some new))) ≡ outputs_of (standing slots)
unfolding standing
outputs_set [] i old new h e = absurd (let z : None ≡ Some (Some old) = h in cc)
outputs_set (None ∷ slots) zero old new h e = absurd (let z : None ≡ Some old = same_Some None (Some old) h in cc)
outputs_set (None ∷ slots) (suc i) old new h e = outputs_set slots i old new h e
outputs_set (Some s ∷ slots) zero old new h e =
    ap (λ (n : List ℕ). n ∷ outputs_of (standing slots)) (e ∙ sym (ap (λ (t : Table). t.output) (same_Some s old (same_Some (Some s) (Some old) h))))
outputs_set (Some s ∷ slots) (suc i) old new h e = ap (λ (ns : List (List ℕ)). s.output ∷ ns) (outputs_set slots i old new h e)

pub standing_push : (slots : List (Option Table)) (t : Table) → standing (slots ++ Some t ∷ []) ≡ standing slots ++ t ∷ []
unfolding standing
standing_push [] t = refl
standing_push (None ∷ slots) t = standing_push slots t
standing_push (Some s ∷ slots) t = ap (λ (ts : List Table). s ∷ ts) (standing_push slots t)

-- the tables that entries are
module _ {R : Type 0} where
  pub standing_present : (slots : List (Option (Entry R))) → standing (written_slots slots) ≡ present slots
  unfolding standing present
  standing_present [] = refl
  standing_present (None ∷ slots) = standing_present slots
  standing_present (Some e ∷ slots) = ap (λ (ts : List Table). written_of e ∷ ts) (standing_present slots)

  pub written_set : (slots : List (Option (Entry R))) (i : ℕ) (x : Option (Entry R)) → written_slots (set slots i x) ≡ set (written_slots slots) i (option_map written_of x)
  written_set slots i x = map-set (option_map written_of) slots i x

  pub table_there : (slots : List (Option (Entry R))) (i : ℕ) (e : Entry R) → slice_get slots i ≡ Some (Some e) → table_at (written_slots slots) i ≡ Some (written_of e)
  table_there slots i e h = ap joined (slice_get-map (option_map written_of) slots i ∙ ap (option_map (option_map written_of)) h)

  pub entry_there : (slots : List (Option (Entry R))) (i : ℕ) (t : Table) → table_at (written_slots slots) i ≡ Some t → (e : Entry R) × (slice_get slots i ≡ Some (Some e)) × (written_of e ≡ t)
  entry_there slots i t h = cases (slice_get slots i) refl
    where
      at : joined (option_map (option_map written_of) (slice_get slots i)) ≡ Some t
      at = ap joined (sym (slice_get-map (option_map written_of) slots i)) ∙ h

      cases : (o : Option (Option (Entry R))) → slice_get slots i ≡ o → (e : Entry R) × (slice_get slots i ≡ Some (Some e)) × (written_of e ≡ t)
      cases None k = absurd (let z : None ≡ Some t = sym (ap (λ (x : Option (Option (Entry R))). joined (option_map (option_map written_of) x)) k) ∙ at in cc)
      cases (Some None) k = absurd (let z : None ≡ Some t = sym (ap (λ (x : Option (Option (Entry R))). joined (option_map (option_map written_of) x)) k) ∙ at in cc)
      cases (Some (Some e)) k = (e, k, same_Some (written_of e) t (sym (ap (λ (x : Option (Option (Entry R))). joined (option_map (option_map written_of) x)) k) ∙ at))

  pub stands : (slots : List (Option (Entry R))) (i : ℕ) → is_some (table_at (written_slots slots) i) ≡ true → (e : Entry R) × (slice_get slots i ≡ Some (Some e))
  stands slots i h = cases (table_at (written_slots slots) i) refl h
    where
      cases : (o : Option Table) → table_at (written_slots slots) i ≡ o → is_some o ≡ true → (e : Entry R) × (slice_get slots i ≡ Some (Some e))
      cases None at k = absurd (false≢true k)
      cases (Some t) at k = let (e, here, is) = entry_there slots i t at in (e, here)

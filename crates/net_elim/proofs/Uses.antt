-- The value of a table stays when another one is eliminated if it does not read that one, and
-- drives no input of it or of its fanouts.
use Rattle.std.proofs.Common.{◌≡◌, ℕ, ◌+◌, ◌*◌, zero, suc, ℤ, pos, ◌-ℤ◌, Bool, true, false, not, ◌&&◌, Option, Some, None, List, [], ◌∷◌, map, bytes_eq, position, int_lt, slice_get, set, refl, sym, ap, ap₂, ◌∙◌, subst, arith, inl, inr}
use Rattle.std.specs.Option.{option_map, option_map_or}
use Rattle.std.proofs.lemmas.Bool.{false≢true}
use Rattle.std.proofs.lemmas.List.Sums.{sum_by-cons}
use Rattle.std.proofs.lemmas.Option.{same_Some, slice_get-map}
use Rattle.circuit_model.specs.Names.{has, all_different}
use Rattle.circuit_model.specs.Values.{driver}
use Rattle.circuit_model.specs.Soundness.{outputs_of, IsSound}
use Rattle.circuit_model.specs.declared.circuit.Table.{Table}
use Rattle.circuit_laws.specs.Edits.{without, is_other, is_root}
use Rattle.circuit_laws.proofs.Drivers.{driver_kept, driver_mapped}
use Rattle.circuit_laws.proofs.Names.{has_not, name_not, different_head, different_tail}
use Rattle.net_core.specs.Reads.{rows_at, uses_in, uses_of, literals_in, own_literals, value_of}
use Rattle.net_core.proofs.Lookups.{get_set_other}
use Rattle.net_core.proofs.Removals.{tables_differ}
use Rattle.net_work.specs.Placed.{Placed, standing, circuit_of, joined, table_at, with_slot}
use Rattle.net_work.proofs.Standing.{slot_uses, uses_set}
use Rattle.circuit_laws.proofs.Mapped.{outputs-mapped}
use Rattle.alg_tables.specs.Taking.{composed_into}
use Rattle.alg_tables.proofs.Places.{IsFound, found}
use Rattle.alg_tables.proofs.Taken.{taken_output, taken_reads, taken_apart}
use Rattle.net_elim.specs.Putting.{slots_taken, with_put}
use Rattle.net_elim.specs.Waiting.{when, worth_within, worth_at}
use Rattle.net_work.proofs.Indexed.{there_named, drives_at, standing_map}
use Rattle.net_elim.proofs.Fanouts.{taken_there}
use Rattle.net_elim.proofs.Steps.{standing_gone, taken_at_place, worth_of_table}

-- a name that is not read is not used
unread_unused : (name : List ℕ) (t : Table) → has t.inputs name ≡ false → uses_in name t ≡ 0
unfolding uses_in
unread_unused name t unread = cases (position (bytes_eq name) t.inputs) (found t.inputs name)
  where
    cases : (o : Option ℕ) → IsFound t.inputs name o → rows_at o t.rows ≡ 0
    cases None f = refl
    cases (Some at) f = absurd (false≢true (sym unread ∙ f.2))

taken_uses : (inner t : Table) (name : List ℕ) → has inner.inputs name ≡ false → (has t.inputs inner.output ≡ true → has t.inputs name ≡ false) → uses_in name (composed_into inner t) ≡ uses_in name t
taken_uses inner t name own others = cases (has t.inputs inner.output) refl
  where
    gone : has t.inputs inner.output ≡ true → has (composed_into inner t).inputs name ≡ true → ⊥
    gone reads h =
        elim (taken_reads inner t name h) as (λ _. ⊥) [
          | inl old ↦ false≢true (sym (others reads) ∙ old)
          | inr new ↦ false≢true (sym own ∙ new.1)
        ]

    cases : (b : Bool) → has t.inputs inner.output ≡ b → uses_in name (composed_into inner t) ≡ uses_in name t
    cases false apart = ap (uses_in name) (taken_apart inner t apart)
    cases true reads =
        unread_unused name (composed_into inner t) (has_not (composed_into inner t).inputs name (gone reads)) ∙ sym (unread_unused name t (others reads))

-- neither a table nor any of its fanouts reads a name
pub record IsUntouched (slots : List (Option Table)) (inner : Table) (name : List ℕ) : Type 0 where
  pub own : has inner.inputs name ≡ false
  pub readers : (at : ℕ) (t : Table) → table_at slots at ≡ Some t → has t.inputs inner.output ≡ true → has t.inputs name ≡ false

uses_next : (name : List ℕ) (x : Option Table) (slots : List (Option Table)) → uses_of (standing (x ∷ slots)) name ≡ slot_uses name x + uses_of (standing slots) name
unfolding uses_of standing
uses_next name None slots = omega arith
uses_next name (Some t) slots = sum_by-cons (uses_in name) t (standing slots)

uses_taken : (slots : List (Option Table)) (inner : Table) (name : List ℕ) → IsUntouched slots inner name → uses_of (standing (slots_taken inner slots)) name ≡ uses_of (standing slots) name
uses_taken [] inner name h = refl
uses_taken (x ∷ slots) inner name h =
    let rest : uses_of (standing (slots_taken inner slots)) name ≡ uses_of (standing slots) name = uses_taken slots inner name (record { own = h.own; readers = λ at. h.readers (suc at) }) in
    let same : slot_uses name (option_map (composed_into inner) x) ≡ slot_uses name x = one x refl in
    omega (arith, uses_next name (option_map (composed_into inner) x) (slots_taken inner slots), uses_next name x slots, same, rest)
  where
    one : (o : Option Table) → x ≡ o → slot_uses name (option_map (composed_into inner) o) ≡ slot_uses name o
    one None e = refl
    one (Some t) e = taken_uses inner t name h.own (h.readers 0 t e)

uses_left : (slots : List (Option Table)) (place : ℕ) (inner : Table) (name : List ℕ) → table_at slots place ≡ Some inner → IsUntouched slots inner name
    → uses_of (standing (set (slots_taken inner slots) place None)) name ≡ uses_of (standing slots) name
uses_left slots place inner name e h =
    let own : slot_uses name (Some (composed_into inner inner)) ≡ 0 = taken_uses inner inner name h.own (λ _. h.own) ∙ unread_unused name inner h.own in
    let none : slot_uses name None ≡ 0 = refl in
    omega (arith, uses_set name (slots_taken inner slots) place (Some (composed_into inner inner)) None (taken_there inner slots place inner e), uses_taken slots inner name h, own, none)

-- tables of one name have one index
name_below : (s : Table) (slots : List (Option Table)) (j : ℕ) (a b : Table) → all_different (s.output ∷ outputs_of (standing slots)) ≡ true → Some s ≡ Some a → table_at slots j ≡ Some b → a.output ≡ b.output → ⊥
name_below s slots j a b different e f same =
    false≢true (sym (different_head s.output (outputs_of (standing slots)) different)
    ∙ subst (λ (name : List ℕ). has (outputs_of (standing slots)) name ≡ true) (sym (ap (λ (t : Table). t.output) (same_Some s a e) ∙ same)) (there_named slots j b f))

pub same_place : (slots : List (Option Table)) → all_different (outputs_of (standing slots)) ≡ true → (i j : ℕ) (a b : Table) → table_at slots i ≡ Some a → table_at slots j ≡ Some b → a.output ≡ b.output → i ≡ j
unfolding standing
same_place [] different i j a b e f same = absurd (let z : None ≡ Some a = e in cc)
same_place (None ∷ slots) different zero j a b e f same = absurd (let z : None ≡ Some a = e in cc)
same_place (None ∷ slots) different (suc i) zero a b e f same = absurd (let z : None ≡ Some b = f in cc)
same_place (None ∷ slots) different (suc i) (suc j) a b e f same = ap suc (same_place slots different i j a b e f same)
same_place (Some s ∷ slots) different zero zero a b e f same = refl
same_place (Some s ∷ slots) different zero (suc j) a b e f same = absurd (name_below s slots j a b different e f same)
same_place (Some s ∷ slots) different (suc i) zero a b e f same = absurd (name_below s slots i b a different f e (sym same))
same_place (Some s ∷ slots) different (suc i) (suc j) a b e f same =
    ap suc (same_place slots (different_tail s.output (outputs_of (standing slots)) different) i j a b e f same)

-- what drives a name
driver_left : (slots : List (Option Table)) (place at : ℕ) (inner t : Table) → all_different (outputs_of (standing slots)) ≡ true → table_at slots place ≡ Some inner → table_at slots at ≡ Some t → (at ≡ place → ⊥)
    → has t.inputs inner.output ≡ false → driver (standing (set (slots_taken inner slots) place None)) t.output ≡ Some t
driver_left slots place at inner t different e there apart unread =
    let put : standing (slots_taken inner slots) ≡ map (composed_into inner) (standing slots) = standing_map (composed_into inner) slots in
    let outputs : all_different (outputs_of (standing (slots_taken inner slots))) ≡ true =
    ap (λ (ts : List Table). all_different (outputs_of ts)) put ∙ (ap all_different (outputs-mapped (composed_into inner) (taken_output inner) (standing slots)) ∙ different) in
    let gone : standing (set (slots_taken inner slots) place None) ≡ without (standing (slots_taken inner slots)) inner.output =
    standing_gone (slots_taken inner slots) place (composed_into inner inner) outputs (taken_at_place slots place inner e) ∙ ap (without (standing (slots_taken inner slots))) (taken_output inner inner) in
    let other : is_other inner.output t.output ≡ true = ap not (name_not inner.output t.output (λ same. apart (same_place slots different at place t inner there e (sym same)))) in
    ap (λ (ts : List Table). driver ts t.output) gone
    ∙ (driver_kept (is_other inner.output) (standing (slots_taken inner slots)) t.output other
    ∙ (ap (λ (ts : List Table). driver ts t.output) put
    ∙ (driver_mapped (composed_into inner) (taken_output inner) (standing slots) t.output
    ∙ (ap (option_map (composed_into inner)) (drives_at slots different at t there) ∙ ap (λ (u : Table). Some u) (taken_apart inner t unread)))))

value_left : (slots : List (Option Table)) (place at : ℕ) (inner t : Table) → all_different (outputs_of (standing slots)) ≡ true → table_at slots place ≡ Some inner → table_at slots at ≡ Some t → (at ≡ place → ⊥)
    → has t.inputs inner.output ≡ false → IsUntouched slots inner t.output → value_of (standing (set (slots_taken inner slots) place None)) t.output ≡ value_of (standing slots) t.output
unfolding value_of own_literals
value_left slots place at inner t different e there apart unread h =
    ap₂ (λ (uses literals : ℕ). pos (uses * literals) -ℤ pos uses -ℤ pos literals) (uses_left slots place inner t.output e h)
    (ap literals_in (driver_left slots place at inner t different e there apart unread ∙ sym (drives_at slots different at t there)))

-- its value
pub slot_left : (slots : List (Option Table)) (place at : ℕ) (inner : Table) → (at ≡ place → ⊥) → table_at (set (slots_taken inner slots) place None) at ≡ option_map (composed_into inner) (table_at slots at)
slot_left slots place at inner apart =
    ap joined (get_set_other (slots_taken inner slots) place at None apart) ∙ (ap joined (slice_get-map (option_map (composed_into inner)) slots at) ∙ cases (slice_get slots at))
  where
    cases : (o : Option (Option Table)) → joined (option_map (option_map (composed_into inner)) o) ≡ option_map (composed_into inner) (joined o)
    cases None = refl
    cases (Some None) = refl
    cases (Some (Some t)) = refl

pub worth_left : (threshold : ℤ) (placed next : Placed) (place at : ℕ) (inner : Table) → IsSound (circuit_of placed) → table_at placed.slots place ≡ Some inner → next ≡ with_slot (with_put inner placed) place None
    → (at ≡ place → ⊥) → ((t : Table) → table_at placed.slots at ≡ Some t → (has t.inputs inner.output ≡ false) × IsUntouched placed.slots inner t.output) → worth_at threshold next at ≡ worth_at threshold placed at
worth_left threshold placed next place at inner sound e is apart untouched = ap (λ (p : Placed). worth_at threshold p at) is ∙ cases (table_at placed.slots at) refl
  where
    after : Placed
    after = with_slot (with_put inner placed) place None

    cases : (o : Option Table) → table_at placed.slots at ≡ o → worth_at threshold after at ≡ worth_at threshold placed at
    cases None k =
        ap (λ (o : Option Table). option_map_or (worth_within threshold after) o None) (slot_left placed.slots place at inner apart ∙ ap (option_map (composed_into inner)) k)
        ∙ sym (ap (λ (o : Option Table). option_map_or (worth_within threshold placed) o None) k)
    cases (Some t) k =
        let h : (has t.inputs inner.output ≡ false) × IsUntouched placed.slots inner t.output = untouched t k in
        let stands : table_at after.slots at ≡ Some t =
        slot_left placed.slots place at inner apart ∙ (ap (option_map (composed_into inner)) k ∙ ap (λ (u : Table). Some u) (taken_apart inner t h.0)) in
        worth_of_table threshold after at t stands
        ∙ (ap (λ (v : ℤ). when (not (is_root placed.frame t.output) && not (int_lt threshold v)) v)
        (value_left placed.slots place at inner t (tables_differ (circuit_of placed) sound) e k apart h.0 h.1)
        ∙ sym (worth_of_table threshold placed at t k))

-- The tables at those indices at which they may read all that a cover reads are divided: the same
-- as all tables divided.
use Rattle.std.proofs.Common.{◌≡◌, ◌⊎◌, ℕ, ◌+◌, ◌<◌, ◌≤◌, ◌==◌, zero, suc, Bool, true, false, Option, Some, None, List, [], ◌∷◌, ◌++◌, map, length, drop, set, get_or, refl, sym, ap, ap₂, ◌∙◌, subst, inl, inr, arith}
use Rattle.std.proofs.lemmas.Bool.{false≢true, eq-eqb, or_left, or_right}
use Rattle.std.proofs.lemmas.List.{length-set, length-map, length-append, drop_more}
use Rattle.circuit_model.specs.declared.circuit.Table.{Table}
use Rattle.alg_div.specs.Cubes.{Has}
use Rattle.net_candidates.proofs.Sums.{AreOnce}
use Rattle.net_readers.specs.Fanouts.{is_in}
use Rattle.cover_names.specs.Literals.{NamedCover}
use Rattle.net_core.proofs.Lookups.{get_set_other}
use Rattle.net_work.specs.Placed.{Placed, joined, table_at, with_slot}
use Rattle.net_extract.specs.Dividing.{divided_slot, turned_at, with_divided}
use Rattle.net_savings.specs.Indexed.{AreAll}
use Rattle.net_savings.proofs.Losing.{stays}
use Rattle.net_savings.proofs.Summing.{in_has}

-- an index among indices
pub has_in : (places : List ℕ) (at : ℕ) → Has at places → is_in places at ≡ true
has_in [] at m = absurd m
has_in (first ∷ places) at m = elim m as (λ _. is_in (first ∷ places) at ≡ true) [
  | inl e ↦ or_left (first == at) (is_in places at) (eq-eqb first at (sym e))
  | inr k ↦ or_right (first == at) (is_in places at) (has_in places at k)
]

-- slots with the same tables at the same indices
pub same_slots : (slots others : List (Option Table)) → length slots ≡ length others → ((at : ℕ) → table_at slots at ≡ table_at others at) → slots ≡ others
same_slots [] [] long same = refl
same_slots [] (other ∷ others) long same = absurd (omega (arith, long))
same_slots (slot ∷ slots) [] long same = absurd (omega (arith, long))
same_slots (slot ∷ slots) (other ∷ others) long same =
    ap₂ (λ (first : Option Table) (rest : List (Option Table)). first ∷ rest) (same 0) (same_slots slots others (omega (arith, long)) (λ at. same (suc at)))

-- the slot at an index after it is written
set_here : (slots : List (Option Table)) (at : ℕ) (slot : Option Table) → at < length slots → table_at (set slots at slot) at ≡ slot
set_here [] at slot below = absurd (omega (arith, below))
set_here (first ∷ slots) zero slot below = refl
set_here (first ∷ slots) (suc at) slot below = set_here slots at slot (omega (arith, below))

module _ (turn : Option Table → Option Table) where
  -- the number of slots stays
  turned_long : (places : List ℕ) (slots : List (Option Table)) → length (turned_at turn places slots) ≡ length slots
  turned_long [] slots = refl
  turned_long (place ∷ places) slots = turned_long places (set slots place (turn (table_at slots place))) ∙ length-set slots place (turn (table_at slots place))

  -- at another index nothing changes
  turned_away : (places : List ℕ) (slots : List (Option Table)) (at : ℕ) → (Has at places → ⊥) → table_at (turned_at turn places slots) at ≡ table_at slots at
  turned_away [] slots at away = refl
  turned_away (place ∷ places) slots at away =
      turned_away places (set slots place (turn (table_at slots place))) at (λ m. away (inr m))
      ∙ ap joined (get_set_other slots place at (turn (table_at slots place)) (λ e. away (inl e)))

  -- at an index that occurs once the slot is changed
  turned_here : (places : List ℕ) (slots : List (Option Table)) (at : ℕ) → AreOnce places → Has at places → at < length slots
      → table_at (turned_at turn places slots) at ≡ turn (table_at slots at)
  turned_here [] slots at once m below = absurd m
  turned_here (place ∷ places) slots at once m below = elim m as (λ _. table_at (turned_at turn (place ∷ places) slots) at ≡ turn (table_at slots at)) [
    | inl e ↦ turned_away places (set slots place (turn (table_at slots place))) at (λ k. once.0 (subst (λ (p : ℕ). Has p places) e k))
        ∙ subst (λ (p : ℕ). table_at (set slots p (turn (table_at slots p))) at ≡ turn (table_at slots at)) e (set_here slots at (turn (table_at slots at)) below)
    | inr k ↦ turned_here places (set slots place (turn (table_at slots place))) at once.1 k
        (let long : length (set slots place (turn (table_at slots place))) ≡ length slots = length-set slots place (turn (table_at slots place)) in omega (arith, long, below))
        ∙ ap turn (ap joined (get_set_other slots place at (turn (table_at slots place)) (λ e. once.0 (subst (λ (p : ℕ). Has p places) e k))))
  ]

  -- a slot before the last one, or the last one and what comes after it
  pub last_split : (slots : List (Option Table)) (last : Option Table) (at : ℕ)
      → ((at < length slots) × (table_at (slots ++ last ∷ []) at ≡ table_at slots at) × (table_at (map turn slots ++ last ∷ []) at ≡ turn (table_at slots at)))
      ⊎ ((length slots ≤ at) × (table_at (map turn slots ++ last ∷ []) at ≡ table_at (slots ++ last ∷ []) at))
  last_split [] last at = inr (omega arith, refl)
  last_split (first ∷ slots) last zero = inl (omega arith, refl, refl)
  last_split (first ∷ slots) last (suc at) = elim (last_split slots last at) [
    | inl before ↦ inl (omega (arith, before.0), before.1, before.2)
    | inr behind ↦ inr (omega (arith, behind.0), behind.1)
  ]

-- all tables divided but the last
module _ (name : List ℕ) (cover : NamedCover) where
  -- one more index
  pub divided_more : (places : List ℕ) (i : ℕ) (now new end : Placed) → i < length places → with_divided name cover (drop i places) now ≡ end
      → new ≡ with_slot now (get_or places i 0) (divided_slot name cover (table_at now.slots (get_or places i 0))) → with_divided name cover (drop (i + 1) places) new ≡ end
  divided_more places i now new end below before is =
      ap (with_divided name cover (drop (i + 1) places)) is ∙ (sym (ap (λ (ps : List ℕ). with_divided name cover ps now) (drop_more places i 0 below)) ∙ before)

  module _ (slots : List (Option Table)) (places : List ℕ) (are : AreAll cover slots places) (within : (at : ℕ) → is_in places at ≡ true → at < length slots) where
    away_same : (at : ℕ) → (Has at places → ⊥) → divided_slot name cover (table_at slots at) ≡ table_at slots at
    away_same at away = cases (table_at slots at) refl
      where
        cases : (slot : Option Table) → table_at slots at ≡ slot → divided_slot name cover slot ≡ slot
        cases None e = refl
        cases (Some table) e = ap (λ (t : Table). Some t) (stays name cover slots places are at away table e)

    before_last : (last : Option Table) (at : ℕ) → at < length slots → table_at (slots ++ last ∷ []) at ≡ table_at slots at
        → table_at (turned_at (divided_slot name cover) places (slots ++ last ∷ [])) at ≡ divided_slot name cover (table_at slots at)
    before_last last at below same = cases (is_in places at) refl
      where
        cases : (b : Bool) → is_in places at ≡ b → table_at (turned_at (divided_slot name cover) places (slots ++ last ∷ [])) at ≡ divided_slot name cover (table_at slots at)
        cases true e =
            turned_here (divided_slot name cover) places (slots ++ last ∷ []) at are.once (in_has places at e) (omega (arith, below, length-append slots (last ∷ []))) ∙ ap (divided_slot name cover) same
        cases false e =
            let away : Has at places → ⊥ = λ m. false≢true (sym e ∙ has_in places at m) in
            turned_away (divided_slot name cover) places (slots ++ last ∷ []) at away ∙ (same ∙ sym (away_same at away))

    pub divided_all : (last : Option Table) → turned_at (divided_slot name cover) places (slots ++ last ∷ []) ≡ map (divided_slot name cover) slots ++ last ∷ []
    divided_all last =
        same_slots (turned_at (divided_slot name cover) places (slots ++ last ∷ [])) (map (divided_slot name cover) slots ++ last ∷ [])
        (omega (arith, turned_long (divided_slot name cover) places (slots ++ last ∷ []), length-append slots (last ∷ []), length-append (map (divided_slot name cover) slots) (last ∷ []), length-map slots (divided_slot name cover)))
        (λ at. elim (last_split (divided_slot name cover) slots last at) as (λ _. table_at (turned_at (divided_slot name cover) places (slots ++ last ∷ [])) at ≡ table_at (map (divided_slot name cover) slots ++ last ∷ []) at) [
          | inl before ↦ before_last last at before.0 before.1 ∙ sym before.2
          | inr behind ↦ turned_away (divided_slot name cover) places (slots ++ last ∷ []) at (λ m. let below : at < length slots = within at (has_in places at m) in absurd (omega (arith, behind.0, below))) ∙ sym behind.1
        ])

-- Steps for the tables of an order, one after the other, whatever a step does.
use Rattle.std.proofs.Common.{◌≡◌, ℕ, ◌<◌, ◌+◌, zero, suc, true, Option, Some, None, List, [], ◌∷◌, map, fold, drop, length, get_or, is_some, refl, sym, ap, ap₂, ◌∙◌, subst, arith}
use Rattle.std.specs.Option.{option_map, option_or}
use Rattle.std.proofs.lemmas.Option.{none-some, same_Some}
use Rattle.circuit_model.specs.Soundness.{IsSound}
use Rattle.circuit_model.specs.declared.circuit.Table.{Table}
use Rattle.circuit_model.specs.declared.circuit.Circuit.{Circuit}
use Rattle.net_work.specs.Placed.{Placed, circuit_of, table_at, name_at}
use Rattle.net_work.specs.Along.{refusal_along, IsAlong}

-- if nothing is refused, neither the first nor the rest refuses
pub or_none : {A : Type 0} (first rest : Option A) → option_or first rest ≡ None → (first ≡ None) × (rest ≡ None)
or_none None rest h = (refl, h)
or_none (Some x) rest h = absurd (none-some x (sym h))

-- what every step keeps that refuses nothing is kept by all of them
pub kept_along : {N X F : Type 0} (Holds : N → Type 0) (step : N → X → N) (refusal : N → X → Option F) → ((from : N) (item : X) → Holds from → refusal from item ≡ None → Holds (step from item))
    → (items : List X) (from : N) → Holds from → refusal_along step refusal from items ≡ None → Holds (fold step from items)
unfolding refusal_along
kept_along Holds step refusal keeps [] from holds none = holds
kept_along Holds step refusal keeps (item ∷ items) from holds none =
    let (first, rest) = or_none (refusal from item) (refusal_along step refusal (step from item) items) none in
    kept_along Holds step refusal keeps items (step from item) (keeps from item holds first) rest

-- an index of the order has a table of its name
named_at : (f : ℕ → Option (List ℕ)) (places : List ℕ) (names : List (List ℕ)) → map f places ≡ map Some names → (i place : ℕ) → i < length places → place ≡ get_or places i 0
    → (name : List ℕ) × (f place ≡ Some name) × (drop i names ≡ name ∷ drop (suc i) names)
named_at f [] names e i place lt is = absurd (omega (arith, lt))
named_at f (first ∷ places) [] e i place lt is = absurd cc
named_at f (first ∷ places) (name ∷ names) e zero place lt is = let head : f first ≡ Some name = cc in (name, ap f is ∙ head, refl)
named_at f (first ∷ places) (name ∷ names) e (suc i) place lt is =
    let rest : map f places ≡ map Some names = cc in
    named_at f places names rest i place (omega (arith, lt)) is

table_named : (found : Option Table) (name : List ℕ) → option_map (λ (table : Table). table.output) found ≡ Some name → (table : Table) × (found ≡ Some table) × (table.output ≡ name)
table_named None name h = absurd (none-some name h)
table_named (Some table) name h = (table, refl, same_Some table.output name h)

module _ {F : Type 0} (step : Circuit → List ℕ → Circuit) (refusal : Circuit → List ℕ → Option F) where
  -- a step for a name was taken, and refused nothing
  pub record IsTurn (name : List ℕ) (before now : Placed) : Type 0 where
    pub frame : now.frame ≡ before.frame
    pub names_stay : (at : ℕ) → name_at now.slots at ≡ name_at before.slots at
    pub made : step (circuit_of before) name ≡ circuit_of now
    pub passed : refusal (circuit_of before) name ≡ None
    pub sound : IsSound (circuit_of now)

  along_next : (names left rest : List (List ℕ)) (before now new : Placed) (name : List ℕ) → IsAlong step refusal names left before now → left ≡ name ∷ rest → IsTurn name now new
      → IsAlong step refusal names rest before new
  unfolding refusal_along
  along_next names left rest before now new name along next turn = record {
    frame = turn.frame ∙ along.frame;
    names_stay = λ at. turn.names_stay at ∙ along.names_stay at;
    end_same = along.end_same ∙ (ap (fold step (circuit_of now)) next ∙ ap (λ (circuit : Circuit). fold step circuit rest) turn.made);
    refusal_same = along.refusal_same
        ∙ (ap (refusal_along step refusal (circuit_of now)) next
        ∙ (ap (λ (first : Option F). option_or first (refusal_along step refusal (step (circuit_of now) name) rest)) turn.passed
        ∙ ap (λ (circuit : Circuit). refusal_along step refusal circuit rest) turn.made));
    sound = turn.sound;
  }

  -- the table at the next index of the order
  next_place : (names : List (List ℕ)) (places : List ℕ) (i : ℕ) (before now : Placed) → map (name_at before.slots) places ≡ map Some names → i < length places → IsAlong step refusal names (drop i names) before now
      → (table : Table) × (drop i names ≡ table.output ∷ drop (i + 1) names) × (table_at now.slots (get_or places i 0) ≡ Some table)
  next_place names places i before now order lt along =
      let (name, at, next) = named_at (name_at before.slots) places names order i (get_or places i 0) lt refl in
      let (table, there, is) = table_named (table_at now.slots (get_or places i 0)) name (along.names_stay (get_or places i 0) ∙ at) in
      let more : suc i ≡ i + 1 = omega arith in
      (table, next ∙ ap₂ (λ (first : List ℕ) (n : ℕ). first ∷ drop n names) (sym is) more, there)

  pub turn_there : (names : List (List ℕ)) (places : List ℕ) (i : ℕ) (before now : Placed) → map (name_at before.slots) places ≡ map Some names → i < length places → IsAlong step refusal names (drop i names) before now
      → is_some (table_at now.slots (get_or places i 0)) ≡ true
  turn_there names places i before now order lt along = let (table, next, there) = next_place names places i before now order lt along in ap is_some there

  pub turn_more : (names : List (List ℕ)) (places : List ℕ) (i : ℕ) (before now new : Placed) → map (name_at before.slots) places ≡ map Some names → i < length places → IsAlong step refusal names (drop i names) before now
      → ((table : Table) → table_at now.slots (get_or places i 0) ≡ Some table → IsTurn table.output now new) → IsAlong step refusal names (drop (i + 1) names) before new
  turn_more names places i before now new order lt along turn =
      let (table, next, there) = next_place names places i before now order lt along in
      along_next names (drop i names) (drop (i + 1) names) before now new table.output along next (turn table there)

  -- a refusal of a step is that of the whole order
  pub turn_refused : (names : List (List ℕ)) (places : List ℕ) (i : ℕ) (before now : Placed) → map (name_at before.slots) places ≡ map Some names → i < length places → IsAlong step refusal names (drop i names) before now
      → (IsCause : Option F → Type 0)
      → ((table : Table) (rest : Option F) → table_at now.slots (get_or places i 0) ≡ Some table → IsCause (option_or (refusal (circuit_of now) table.output) rest)) → IsCause (refusal_along step refusal (circuit_of before) names)
  unfolding refusal_along
  turn_refused names places i before now order lt along IsCause cause =
      let (table, next, there) = next_place names places i before now order lt along in
      subst IsCause (sym (along.refusal_same ∙ ap (refusal_along step refusal (circuit_of now)) next))
      (cause table (refusal_along step refusal (step (circuit_of now) table.output) (drop (i + 1) names)) there)

  -- at the end of the order there was no refusal
  pub along_none : (names : List (List ℕ)) (before now : Placed) → IsAlong step refusal names [] before now → refusal_along step refusal (circuit_of before) names ≡ None
  unfolding refusal_along
  along_none names before now along = along.refusal_same

-- What tables read, by index: the inputs of tables in order, of which one is replaced; and that the
-- fanouts at all indices say whether some table reads a signal.
use Rattle.std.proofs.Common.{◌≡◌, ℕ, zero, suc, ◌+◌, ◌<◌, ◌≤◌, ◌==◌, Bool, true, false, if◌then◌else◌, Option, Some, None, List, [], ◌∷◌, ◌++◌, take, length, get_or, set, slice_get, inl, inr, refl, sym, ap, ◌∙◌, subst, arith}
use Rattle.std.specs.Prelude.{MatchBool}
use Rattle.std.specs.Option.{option_map_or}
use Rattle.std.proofs.lemmas.Bool.{false≢true, eqb-true, eqb-false}
use Rattle.std.proofs.lemmas.List.{take_all}
use Rattle.circuit_model.specs.Names.{has}
use Rattle.circuit_model.specs.Soundness.{table_inputs}
use Rattle.circuit_model.specs.declared.circuit.Table.{Table}
use Rattle.circuit_model.specs.declared.circuit.Circuit.{Circuit}
use Rattle.circuit_laws.specs.Edits.{with_tables}
use Rattle.circuit_laws.proofs.Names.{has_front, has_back, has_either, has_not}
use Rattle.net_wires.proofs.Searching.{at_place}
use Rattle.net_readers.specs.Fanouts.{Inputs, with_inputs, AreReaders}
use Rattle.net_wires.specs.Aliases.{inputs_at}

-- inputs that are the same at each index have the same fanouts
readers_same : (told : List ℕ → ℕ → Bool) (some others : Inputs) → ((place : ℕ) → some place ≡ others place) → AreReaders told some → AreReaders told others
readers_same told some others same all name place = all name place ∙ ap (λ (ns : List (List ℕ)). has ns name) (same place)

-- without a table nothing is read
pub readers_none : (told : List ℕ → ℕ → Bool) → AreReaders told (λ place. []) → AreReaders told (inputs_at [])
readers_none told all = readers_same told (λ place. []) (inputs_at []) (λ place. refl) all

-- one table more

taken_same : {X : Type 0} (items : List X) (i : ℕ) (item : X) → i < length items → item ≡ get_or items i item → slice_get (take (suc i) items) i ≡ Some item
taken_same [] i item lt is = absurd (omega (arith, lt))
taken_same (first ∷ items) zero item lt is = ap Some (sym is)
taken_same (first ∷ items) (suc i) item lt is = taken_same items i item (omega (arith, lt)) is

taken_other : {X : Type 0} (items : List X) (i at : ℕ) → (i ≡ at → ⊥) → slice_get (take (suc i) items) at ≡ slice_get (take i items) at
taken_other [] zero at apart = refl
taken_other [] (suc i) at apart = refl
taken_other (first ∷ items) zero zero apart = absurd (apart refl)
taken_other (first ∷ items) zero (suc at) apart = refl
taken_other (first ∷ items) (suc i) zero apart = refl
taken_other (first ∷ items) (suc i) (suc at) apart = taken_other items i at (λ same. apart (ap suc same))

past_end : {X : Type 0} (items : List X) (i : ℕ) → slice_get (take i items) i ≡ None
past_end [] zero = refl
past_end [] (suc i) = refl
past_end (first ∷ items) zero = refl
past_end (first ∷ items) (suc i) = past_end items i

-- after the tables that were seen nothing is read
pub nothing_behind : (tables : List Table) (i : ℕ) → inputs_at (take i tables) i ≡ []
nothing_behind tables i = ap (λ (o : Option Table). option_map_or (λ (table : Table). table.inputs) o []) (past_end tables i)

inputs_more : (tables : List Table) (i : ℕ) (table : Table) → i < length tables → table ≡ get_or tables i table → (at : ℕ) → with_inputs (inputs_at (take i tables)) i table.inputs at ≡ inputs_at (take (i + 1) tables) at
inputs_more tables i table lt is at =
    subst (λ (n : ℕ). with_inputs (inputs_at (take i tables)) i table.inputs at ≡ inputs_at (take n tables) at) (let z : suc i ≡ i + 1 = omega arith in z) (by (i == at) refl)
  where
    by : (b : Bool) → (i == at) ≡ b → (if b then table.inputs else inputs_at (take i tables) at) ≡ inputs_at (take (suc i) tables) at
    by true e =
        subst (λ (n : ℕ). table.inputs ≡ inputs_at (take (suc i) tables) n) (eqb-true i at e)
        (sym (ap (λ (o : Option Table). option_map_or (λ (t : Table). t.inputs) o []) (taken_same tables i table lt is)))
    by false e = sym (ap (λ (o : Option Table). option_map_or (λ (t : Table). t.inputs) o []) (taken_other tables i at (eqb-false i at e)))

pub readers_more : (tables : List Table) (i : ℕ) (table : Table) (told : List ℕ → ℕ → Bool) → i < length tables → table ≡ get_or tables i table
    → AreReaders told (with_inputs (inputs_at (take i tables)) i table.inputs) → AreReaders told (inputs_at (take (i + 1) tables))
readers_more tables i table told lt is all =
    readers_same told (with_inputs (inputs_at (take i tables)) i table.inputs) (inputs_at (take (i + 1) tables)) (inputs_more tables i table lt is) all

pub readers_all : (tables : List Table) (i : ℕ) (told : List ℕ → ℕ → Bool) → length tables ≤ i → AreReaders told (inputs_at (take i tables)) → AreReaders told (inputs_at tables)
readers_all tables i told le all = subst (λ (ts : List Table). AreReaders told (inputs_at ts)) (take_all i tables le) all

-- a table is replaced by another one

set_same : {X : Type 0} (items : List X) (place : ℕ) (old made : X) → slice_get items place ≡ Some old → slice_get (set items place made) place ≡ Some made
set_same [] place old made here = let z : None ≡ Some old = here in absurd cc
set_same (first ∷ items) zero old made here = refl
set_same (first ∷ items) (suc place) old made here = set_same items place old made here

set_other : {X : Type 0} (items : List X) (place at : ℕ) (made : X) → (place ≡ at → ⊥) → slice_get (set items place made) at ≡ slice_get items at
set_other [] place at made apart = refl
set_other (first ∷ items) zero zero made apart = absurd (apart refl)
set_other (first ∷ items) zero (suc at) made apart = refl
set_other (first ∷ items) (suc place) zero made apart = refl
set_other (first ∷ items) (suc place) (suc at) made apart = set_other items place at made (λ same. apart (ap suc same))

-- the inputs of the table at an index
pub inputs_here : (tables : List Table) (place : ℕ) (table : Table) → slice_get tables place ≡ Some table → inputs_at tables place ≡ table.inputs
inputs_here tables place table at = ap (λ (o : Option Table). option_map_or (λ (t : Table). t.inputs) o []) at

inputs_set : (tables : List Table) (place : ℕ) (old made : Table) → slice_get tables place ≡ Some old → (at : ℕ) → with_inputs (inputs_at tables) place made.inputs at ≡ inputs_at (set tables place made) at
inputs_set tables place old made here at = by (place == at) refl
  where
    by : (b : Bool) → (place == at) ≡ b → (if b then made.inputs else inputs_at tables at) ≡ inputs_at (set tables place made) at
    by true e = subst (λ (n : ℕ). made.inputs ≡ inputs_at (set tables place made) n) (eqb-true place at e) (sym (inputs_here (set tables place made) place made (set_same tables place old made here)))
    by false e = ap (λ (o : Option Table). option_map_or (λ (t : Table). t.inputs) o []) (sym (set_other tables place at made (eqb-false place at e)))

pub readers_set : (tables : List Table) (place : ℕ) (old made : Table) (told : List ℕ → ℕ → Bool) → slice_get tables place ≡ Some old → AreReaders told (with_inputs (inputs_at tables) place made.inputs)
    → AreReaders told (inputs_at (set tables place made))
readers_set tables place old made told here all = readers_same told (with_inputs (inputs_at tables) place made.inputs) (inputs_at (set tables place made)) (inputs_set tables place old made here) all

-- and so in a circuit
pub readers_put : (told : List ℕ → ℕ → Bool) (circuit new : Circuit) (place : ℕ) (old kept : Table) (before now : List (List ℕ)) (tables : List Table) → tables ≡ circuit.tables → place < length circuit.tables → old ≡ get_or tables place old
    → before ≡ old.inputs → now ≡ kept.inputs → new ≡ with_tables circuit (set circuit.tables place kept)
    → (inputs_at circuit.tables place ≡ before → AreReaders told (with_inputs (inputs_at circuit.tables) place now)) → AreReaders told (inputs_at new.tables)
readers_put told circuit new place old kept before now tables same lt is b k n changes =
    let here : slice_get circuit.tables place ≡ Some old = at_place circuit.tables place old lt (subst (λ (ts : List Table). old ≡ get_or ts place old) same is) in
    subst (λ (c : Circuit). AreReaders told (inputs_at c.tables)) (sym n)
    (readers_set circuit.tables place old kept told here
    (subst (λ (names : List (List ℕ)). AreReaders told (with_inputs (inputs_at circuit.tables) place names)) k (changes (inputs_here circuit.tables place old here ∙ sym b))))

-- a table without inputs is appended
pub readers_last : (told : List ℕ → ℕ → Bool) (tables : List Table) (last : Table) → last.inputs ≡ [] → AreReaders told (inputs_at tables) → AreReaders told (inputs_at (tables ++ last ∷ []))
readers_last told tables last none all = readers_same told (inputs_at tables) (inputs_at (tables ++ last ∷ [])) (by tables) all
  where
    by : (ts : List Table) (i : ℕ) → inputs_at ts i ≡ inputs_at (ts ++ last ∷ []) i
    by [] zero = sym none
    by [] (suc i) = refl
    by (t ∷ ts) zero = refl
    by (t ∷ ts) (suc i) = by ts i

-- some table reads a signal if it is read at some index
read_by : (tables : List Table) (name : List ℕ) → has (table_inputs tables) name ≡ true → (place : ℕ) × (has (inputs_at tables place) name ≡ true)
read_by [] name h = absurd (false≢true h)
read_by (first ∷ tables) name h =
    elim (has_either first.inputs (table_inputs tables) name h) as (λ _. (place : ℕ) × (has (inputs_at (first ∷ tables) place) name ≡ true)) [
      | inl here ↦ (0, here)
      | inr there ↦ (let (place, reads) = read_by tables name there in (suc place, reads))
    ]

read_here : (tables : List Table) (place : ℕ) (name : List ℕ) → has (inputs_at tables place) name ≡ true → has (table_inputs tables) name ≡ true
read_here [] place name h = absurd (false≢true h)
read_here (first ∷ tables) zero name h = has_front first.inputs (table_inputs tables) name h
read_here (first ∷ tables) (suc place) name h = has_back first.inputs (table_inputs tables) name (read_here tables place name h)

pub some_reader : (told : List ℕ → ℕ → Bool) (tables : List Table) (name : List ℕ) (result : Bool) → AreReaders told (inputs_at tables)
    → MatchBool result ((place : ℕ) × (told name place ≡ true)) ((place : ℕ) → told name place ≡ false) → result ≡ has (table_inputs tables) name
some_reader told tables name true all (place, h) = sym (read_here tables place name (sym (all name place) ∙ h))
some_reader told tables name false all none =
    sym (has_not (table_inputs tables) name (λ h. let (place, reads) = read_by tables name h in false≢true (sym (none place) ∙ (all name place ∙ reads))))

-- The index of tables by their outputs, and the fanouts of each, as far as a loop has come.
use Rattle.std.proofs.Common.{◌≡◌, ℕ, zero, suc, ◌+◌, ◌<◌, ◌==◌, Bool, true, false, ◌&&◌, cond, if◌then◌else◌, Option, Some, None, IfSome, List, [], ◌∷◌, ◌++◌, length, take, drop, get_or, slice_get, replicate, bytes_eq, refl, sym, ap, ◌∙◌, subst, inl, inr, ◌⊎◌, arith, eq-eqb, ne_eqb}
use Rattle.std.proofs.lemmas.Bool.{cases_eq}
use Rattle.std.proofs.lemmas.Option.{same_Some, none-some}
use Rattle.std.proofs.lemmas.List.{take-append-drop, drop_more, map-append}
use Rattle.std.proofs.lemmas.List.Sums.{sum_by_more}
use Rattle.circuit_model.specs.Names.{has, all_different}
use Rattle.circuit_model.specs.Soundness.{outputs_of}
use Rattle.circuit_model.specs.declared.circuit.Table.{Table}
use Rattle.circuit_laws.proofs.Names.{same_name, name_is, name_not, has_head, different_apart}
use Rattle.circuit_laws.proofs.Places.{placed_name}
use Rattle.circuit_order.specs.Places.{times, hits, hits_of, is_at, IsIndex}
use Rattle.circuit_order.proofs.Counting.{get_not_yet, get_more_here, get_more_other}

-- the next of tables with different outputs is none of those before it
pub next_is_new : (tables : List Table) (k : ℕ) (table : Table) → all_different (outputs_of tables) ≡ true → k < length tables → table ≡ get_or tables k table
    → has (outputs_of (take k tables)) table.output ≡ true → ⊥
next_is_new tables k table different lt e among =
    let parts : tables ≡ take k tables ++ (table ∷ drop (k + 1) tables) =
    sym (take-append-drop k tables) ∙ ap (λ (rest : List Table). take k tables ++ rest) (drop_more tables k table lt ∙ ap (λ (first : Table). first ∷ drop (k + 1) tables) (sym e)) in
    let names : outputs_of tables ≡ outputs_of (take k tables) ++ (table.output ∷ outputs_of (drop (k + 1) tables)) =
    ap outputs_of parts ∙ map-append (λ (t : Table). t.output) (take k tables) (table ∷ drop (k + 1) tables) in
    (different_apart (outputs_of (take k tables)) (table.output ∷ outputs_of (drop (k + 1) tables)) (ap all_different (sym names) ∙ different)).between table.output among
    (has_head table.output (outputs_of (drop (k + 1) tables)))

pub index_begun : (place : List ℕ → Option ℕ) → ((name : List ℕ) → place name ≡ None) → IsIndex [] place
index_begun place none = record { placed = λ i table at. absurd (none-some table at); only = λ name i at. absurd (none-some i (sym (none name) ∙ at)) }

pub index_more : (tables : List Table) (old new : List ℕ → Option ℕ) (k : ℕ) (table : Table) → all_different (outputs_of tables) ≡ true → k < length tables → table ≡ get_or tables k table
    → IsIndex (take k tables) old → ((name : List ℕ) → new name ≡ (if bytes_eq table.output name then Some k else old name)) → IsIndex (take (k + 1) tables) new
index_more tables old new k table different lt e index put = record {
  placed = λ i other at. placed i other at (cases_eq i k);
  only = λ name i at. only name i (bytes_eq table.output name) refl (sym (put name) ∙ at);
}
  where
    placed : (i : ℕ) (other : Table) → slice_get (take (k + 1) tables) i ≡ Some other → (i ≡ k) ⊎ (i ≡ k → ⊥) → new other.output ≡ Some i
    placed i other at (inl here) =
        let same : table ≡ other = same_Some table other (sym (get_more_here tables k table lt e) ∙ (ap (slice_get (take (k + 1) tables)) (sym here) ∙ at)) in
        put other.output ∙ (ap (λ (b : Bool). if b then Some k else old other.output) (name_is table.output other.output (ap (λ (t : Table). t.output) same)) ∙ ap (λ (n : ℕ). Some n) (sym here))
    placed i other at (inr n) =
        let before : slice_get (take k tables) i ≡ Some other = sym (get_more_other tables k i n) ∙ at in
        let apart : bytes_eq table.output other.output ≡ false =
        name_not table.output other.output (λ same. next_is_new tables k table different lt e
        (subst (λ (name : List ℕ). has (outputs_of (take k tables)) name ≡ true) (sym same) (placed_name (λ (t : Table). t.output) (take k tables) i other before))) in
        put other.output ∙ (ap (λ (b : Bool). if b then Some k else old other.output) apart ∙ index.placed i other before)

    only : (name : List ℕ) (i : ℕ) (b : Bool) → bytes_eq table.output name ≡ b → (if b then Some k else old name) ≡ Some i
        → (other : Table) × (slice_get (take (k + 1) tables) i ≡ Some other) × (other.output ≡ name)
    only name i true same at =
        let here : k ≡ i = same_Some k i at in
        (table, ap (slice_get (take (k + 1) tables)) (sym here) ∙ get_more_here tables k table lt e, same_name table.output name same)
    only name i false same at =
        let (other, before, is) = index.only name i at in
        let n : i ≡ k → ⊥ = λ here. none-some other (sym (get_not_yet tables k) ∙ (ap (slice_get (take k tables)) (sym here) ∙ before)) in
        (other, get_more_other tables k i n ∙ before, is)

-- an index to which a name leads is one of the tables'
pub within : {X : Type 0} (xs : List X) (i : ℕ) (x : X) → slice_get xs i ≡ Some x → i < length xs
within [] i x at = absurd (none-some x at)
within (y ∷ xs) zero x at = omega arith
within (y ∷ xs) (suc i) x at = omega (arith, within xs i x at)

pub index_within : (tables : List Table) (place : List ℕ → Option ℕ) (count : ℕ) → IsIndex tables place → count ≡ length tables → (name : List ℕ) → IfSome (place name) (λ i. i < count)
index_within tables place count index e name = cases (place name) refl
  where
    cases : (found : Option ℕ) → place name ≡ found → IfSome found (λ i. i < count)
    cases None at = tt
    cases (Some i) at = let (table, there, is) = index.only name i at in omega (arith, within tables i table there, e)

-- one more input is counted
pub hits_more : (place : List ℕ → Option ℕ) (i : ℕ) (names : List (List ℕ)) (k : ℕ) (name : List ℕ) → k < length names → name ≡ get_or names k name
    → hits place i (take (k + 1) names) ≡ hits place i (take k names) + cond {A = ℕ} (is_at i (place name)) 1 0
hits_more place i names k name lt e =
    sum_by_more (λ (n : List ℕ). cond {A = ℕ} (is_at i (place n)) 1 0) names k name lt ∙ ap (λ (n : List ℕ). hits place i (take k names) + cond {A = ℕ} (is_at i (place n)) 1 0) (sym e)

pub reads_more : (place : List ℕ → Option ℕ) (names : List (List ℕ)) (k : ℕ) (name : List ℕ) (i j reader old before now : ℕ) → k < length names → name ≡ get_or names k name
    → before ≡ old + (if reader == j then hits place i (take k names) else 0)
    → now ≡ before + (if reader == j && is_at i (place name) then 1 else 0)
    → now ≡ old + (if reader == j then hits place i (take (k + 1) names) else 0)
reads_more place names k name i j reader old before now lt e b n = cases (reader == j) b n
  where
    cases : (mine : Bool) → before ≡ old + (if mine then hits place i (take k names) else 0) → now ≡ before + (if mine && is_at i (place name) then 1 else 0)
        → now ≡ old + (if mine then hits place i (take (k + 1) names) else 0)
    cases true b n = omega (arith, b, n, hits_more place i names k name lt e)
    cases false b n = omega (arith, b, n)

-- one more fanout is listed
get_empty : (count i : ℕ) → get_or {A = List ℕ} (replicate count []) i [] ≡ []
get_empty zero i = refl
get_empty (suc count) zero = refl
get_empty (suc count) (suc i) = get_empty count i

pub readers_begun : (count i j : ℕ) → times j (get_or {A = List ℕ} (replicate count []) i []) ≡ 0
readers_begun count i j = ap (times j) (get_empty count i)

pub readers_more : (place : List ℕ → Option ℕ) (tables : List Table) (k : ℕ) (table : Table) (i j before now : ℕ) → k < length tables → table ≡ get_or tables k table
    → before ≡ hits_of place i (slice_get (take k tables) j) → now ≡ before + (if k == j then hits place i table.inputs else 0)
    → now ≡ hits_of place i (slice_get (take (k + 1) tables) j)
readers_more place tables k table i j before now lt e b n = elim (cases_eq j k) as (λ _. now ≡ hits_of place i (slice_get (take (k + 1) tables) j)) [
  | inl here ↦
      let none : before ≡ 0 = b ∙ (ap (λ (m : ℕ). hits_of place i (slice_get (take k tables) m)) here ∙ ap (hits_of place i) (get_not_yet tables k)) in
      let some : hits_of place i (slice_get (take (k + 1) tables) j) ≡ hits place i table.inputs =
      ap (λ (m : ℕ). hits_of place i (slice_get (take (k + 1) tables) m)) here ∙ ap (hits_of place i) (get_more_here tables k table lt e) in
      let mine : cond {A = ℕ} (k == j) (hits place i table.inputs) 0 ≡ hits place i table.inputs = ap (λ (t : Bool). cond {A = ℕ} t (hits place i table.inputs) 0) (eq-eqb k j (sym here)) in
      omega (arith, none, some, mine, n)
  | inr other ↦
      let same : hits_of place i (slice_get (take (k + 1) tables) j) ≡ hits_of place i (slice_get (take k tables) j) = ap (hits_of place i) (get_more_other tables k j other) in
      let none : cond {A = ℕ} (k == j) (hits place i table.inputs) 0 ≡ 0 = ap (λ (t : Bool). cond {A = ℕ} t (hits place i table.inputs) 0) (ne_eqb k j (λ x. other (sym x))) in
      omega (arith, same, none, b, n)
]

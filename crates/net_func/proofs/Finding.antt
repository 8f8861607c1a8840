-- Tables are found by their outputs.
use Rattle.std.proofs.Common.{◌≡◌, ℕ, zero, suc, ◌<◌, Bool, true, false, cond, Option, Some, None, is_some, List, [], ◌∷◌, length, get_or, slice_get, bytes_eq, refl, sym, ap, ◌∙◌, subst}
use Rattle.std.proofs.lemmas.Bool.{false≢true}
use Rattle.std.proofs.lemmas.Option.{same_Some, none-some}
use Rattle.circuit_model.specs.Names.{has, all_different}
use Rattle.circuit_model.specs.Values.{driver}
use Rattle.circuit_model.specs.Soundness.{outputs_of}
use Rattle.circuit_model.specs.declared.circuit.Table.{Table}
use Rattle.circuit_laws.proofs.Drivers.{output_driver, driver_name}
use Rattle.circuit_laws.proofs.Places.{placed_driver, placed_name}
use Rattle.circuit_order.specs.Places.{IsIndex}
use Rattle.circuit_order.proofs.Indexing.{within}

-- what drives a signal has an index
pub driver_place : (tables : List Table) (name : List ℕ) (table : Table) → driver tables name ≡ Some
    table
    → (i : ℕ) × (slice_get tables i ≡ Some table)
unfolding driver
driver_place [] name table at = absurd (none-some table at)
driver_place (first ∷ tables) name table at =
    cases (bytes_eq name first.output) at (driver_place tables name table)
  where
    cases : (b : Bool) → cond b (Some first) (driver tables name) ≡ Some table
        → (driver tables name ≡ Some table → (i : ℕ) × (slice_get tables i ≡ Some table))
        → (i : ℕ) × (slice_get (first ∷ tables) i ≡ Some table)
    cases true e more = (zero, e)
    cases false e more = let (i, there) = more e in (suc i, there)

-- each output of tables has an index
pub output_placed : (tables : List Table) (place : List ℕ → Option ℕ) (name : List ℕ) → IsIndex
    tables place
    → has (outputs_of tables) name ≡ true → (i : ℕ) × (place name ≡ Some i)
output_placed tables place name index driven =
    let (table, at) = output_driver tables name driven in
    let (i, there) = driver_place tables name table at in
    (i, ap place (sym (driver_name tables name table at)) ∙ index.placed i table there)

pub output_found : (tables : List Table) (place : List ℕ → Option ℕ) (name : List ℕ) → IsIndex
    tables place
    → has (outputs_of tables) name ≡ true → None ≡ place name → ⊥
output_found tables place name index driven none =
    let (i, at) = output_placed tables place name index driven in none-some i (none ∙ at)

-- the index of a name is that of the table that drives it
get_or-slice_get : {X : Type 0} (xs : List X) (i : ℕ) (x d : X) → slice_get xs i ≡ Some x → get_or
    xs i d ≡ x
get_or-slice_get [] i x d at = absurd (none-some x at)
get_or-slice_get (y ∷ ys) zero x d at = same_Some y x at
get_or-slice_get (y ∷ ys) (suc i) x d at = get_or-slice_get ys i x d at

pub place_low : (tables : List Table) (place : List ℕ → Option ℕ) (name : List ℕ) (i : ℕ) → IsIndex
    tables place
    → Some i ≡ place name → i < length tables
place_low tables place name i index at =
    let (table, there, is) = index.only name i (sym at) in within tables i table there

pub driver_placed : (tables : List Table) (place : List ℕ → Option ℕ) (name : List ℕ) (i : ℕ) (found
    : Table)
    → all_different (outputs_of tables) ≡ true → IsIndex tables place → Some i ≡ place name
    → found ≡ get_or tables i found → driver tables name ≡ Some found
driver_placed tables place name i found once index at is =
    let (table, there, output) = index.only name i (sym at) in
    let same : table ≡ found = sym (get_or-slice_get tables i table found there) ∙ sym is in
    ap (driver tables) (sym output) ∙ placed_driver tables i table once there
    ∙ ap (λ (t : Table). Some t) same

-- a name has an index exactly if a table drives it
pub placed_driven : (tables : List Table) (place : List ℕ → Option ℕ) (name : List ℕ) → IsIndex
    tables place
    → is_some (place name) ≡ has (outputs_of tables) name
placed_driven tables place name index =
    cases (place name) refl (has (outputs_of tables) name) refl
  where
    cases : (found : Option ℕ) → place name ≡ found → (b : Bool) → has (outputs_of tables) name ≡ b
        → is_some found ≡ b
    cases None none true driven = absurd (output_found tables place name index driven (sym none))
    cases None none false free = refl
    cases (Some i) at true driven = refl
    cases (Some i) at false free =
        let (table, there, output) = index.only name i at in
        absurd (false≢true (sym free
        ∙ subst (λ (n : List ℕ). has (outputs_of tables) n ≡ true) output
        (placed_name (λ (t : Table). t.output) tables i table there)))

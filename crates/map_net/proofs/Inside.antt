-- What stands in a list, and tables among tables.
use Rattle.std.proofs.Common.{◌≡◌, ◌⊎◌, ℕ, zero, suc, Bool, true, false, cond, Some}
use Rattle.std.proofs.Common.{List, [], ◌∷◌, filter, bytes_eq, slice_get, refl, sym, ap, ◌∙◌}
use Rattle.std.proofs.Common.{subst, inl, inr}
use Rattle.std.specs.List.{AllByRecursion}
use Rattle.std.proofs.lemmas.Bool.{false≢true, or_cases}
use Rattle.std.proofs.lemmas.Option.{none-some, same_Some}
use Rattle.circuit_model.specs.Names.{has, all_different}
use Rattle.circuit_model.specs.Values.{driver}
use Rattle.circuit_model.specs.Soundness.{outputs_of}
use Rattle.circuit_model.specs.declared.circuit.Table.{Table}
use Rattle.circuit_laws.proofs.Names.{has_head, has_tail, same_name}
use Rattle.circuit_laws.proofs.Places.{placed_driver}
use Rattle.pattern_set.proofs.Exact.{In}

-- in a list, and at a place of it
pub in_place : {X : Type 0} (x : X) (xs : List X) → In x xs → (i : ℕ) × (slice_get xs i ≡ Some x)
in_place x [] h = absurd h
in_place x (y ∷ xs) (inl e) = (0, ap (λ z. Some z) e)
in_place x (y ∷ xs) (inr h) = let (i, at) = in_place x xs h in (suc i, at)

pub place_in : {X : Type 0} (x : X) (xs : List X) (i : ℕ) → slice_get xs i ≡ Some x → In x xs
place_in x [] i at = absurd (none-some x at)
place_in x (y ∷ xs) zero at = inl (same_Some y x at)
place_in x (y ∷ xs) (suc i) at = inr (place_in x xs i at)

-- what holds of all holds of each, and the other way round
pub all_in : {X : Type 0} (P : X → Type 0) (xs : List X) → AllByRecursion P xs → (x : X) → In x xs
    → P x
all_in P [] all x h = absurd h
all_in P (y ∷ xs) all x (inl e) = subst P e all.0
all_in P (y ∷ xs) all x (inr h) = all_in P xs all.1 x h

pub in_all : {X : Type 0} (P : X → Type 0) (xs : List X) → ((x : X) → In x xs → P x)
    → AllByRecursion P xs
in_all P [] each = tt
in_all P (y ∷ xs) each = (each y (inl refl), in_all P xs (λ x h. each x (inr h)))

-- what passes a test
pub in_filter : {X : Type 0} (test : X → Bool) (x : X) (xs : List X) → In x xs → test x ≡ true
    → In x (filter test xs)
in_filter test x [] h passes = absurd h
in_filter test x (y ∷ xs) h passes = cases (test y) refl h (λ k. in_filter test x xs k passes)
  where
    cases : (b : Bool) → test y ≡ b → (y ≡ x) ⊎ In x xs → (In x xs → In x (filter test xs))
        → In x (cond b (y ∷ filter test xs) (filter test xs))
    cases true e (inl same) rest = inl same
    cases true e (inr k) rest = inr (rest k)
    cases false e (inl same) rest = absurd (false≢true (sym e ∙ ap test same ∙ passes))
    cases false e (inr k) rest = rest k

pub from_filter : {X : Type 0} (test : X → Bool) (x : X) (xs : List X) → In x (filter test xs)
    → In x xs × (test x ≡ true)
from_filter test x [] h = absurd h
from_filter test x (y ∷ xs) h = cases (test y) refl h (λ k. from_filter test x xs k)
  where
    cases : (b : Bool) → test y ≡ b → In x (cond b (y ∷ filter test xs) (filter test xs))
        → (In x (filter test xs) → In x xs × (test x ≡ true))
        → ((y ≡ x) ⊎ In x xs) × (test x ≡ true)
    cases true e (inl same) rest = (inl same, ap test (sym same) ∙ e)
    cases true e (inr k) rest = let (there, passes) = rest k in (inr there, passes)
    cases false e k rest = let (there, passes) = rest k in (inr there, passes)

-- the table that drives a signal is one of the tables, and the only one of its signal
pub driver_in : (tables : List Table) (signal : List ℕ) (table : Table)
    → driver tables signal ≡ Some table → In table tables
unfolding driver
driver_in [] signal table at = absurd (none-some table at)
driver_in (first ∷ tables) signal table at = cases (bytes_eq signal first.output) at
    (λ e. driver_in tables signal table e)
  where
    cases : (b : Bool) → cond b (Some first) (driver tables signal) ≡ Some table
        → (driver tables signal ≡ Some table → In table tables)
        → (first ≡ table) ⊎ In table tables
    cases true e rest = inl (same_Some first table e)
    cases false e rest = inr (rest e)

pub in_driver : (tables : List Table) → all_different (outputs_of tables) ≡ true → (table : Table)
    → In table tables → driver tables table.output ≡ Some table
in_driver tables different table h =
    let (i, at) = in_place table tables h in placed_driver tables i table different at

-- the outputs of tables
pub in_output : (tables : List Table) (table : Table) → In table tables
    → has (outputs_of tables) table.output ≡ true
in_output [] table h = absurd h
in_output (first ∷ tables) table (inl e) = subst (λ (t : Table). has (outputs_of (first ∷ tables))
    t.output ≡ true) e (has_head first.output (outputs_of tables))
in_output (first ∷ tables) table (inr h) = has_tail first.output (outputs_of tables) table.output
    (in_output tables table h)

pub output_in : (tables : List Table) (name : List ℕ) → has (outputs_of tables) name ≡ true
    → (table : Table) × In table tables × (table.output ≡ name)
output_in [] name h = absurd (false≢true h)
output_in (first ∷ tables) name h = elim (or_cases (bytes_eq name first.output) (has (outputs_of
    tables) name) h) as (λ _. (table : Table) × In table (first ∷ tables) × (table.output ≡ name)) [
      | inl e ↦ (first, inl refl, sym (same_name name first.output e))
      | inr k ↦ let (table, there, own) = output_in tables name k in (table, inr there, own)
    ]

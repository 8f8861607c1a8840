-- What a search finds in a list, and among tables.
use Rattle.std.proofs.Common.{◌≡◌, ℕ, Bool, true, false, Some, None, List, [], ◌∷◌, find, bytes_eq, cond, refl, sym, ap, ◌∙◌, subst}
use Rattle.std.specs.List.{AllByRecursion}
use Rattle.std.proofs.lemmas.Bool.{false≢true}
use Rattle.std.proofs.lemmas.Option.{none-some, same_Some}
use Rattle.circuit_model.specs.Names.{has, all_different}
use Rattle.circuit_model.specs.Values.{driver}
use Rattle.circuit_model.specs.Soundness.{outputs_of}
use Rattle.circuit_model.specs.declared.circuit.Table.{Table}
use Rattle.circuit_laws.proofs.Names.{name_itself, name_not, different_head, different_tail}
use Rattle.circuit_laws.proofs.Drivers.{driver_output}

-- what is found passes the test, and has what all have
pub find_test : {X : Type 0} (p : X → Bool) (xs : List X) (x : X) → find p xs ≡ Some x → p x ≡ true
find_test p [] x e = absurd (none-some x e)
find_test p (first ∷ xs) x e = cases (p first) refl e (find_test p xs x)
  where
    cases : (t : Bool) → p first ≡ t → cond t (Some first) (find p xs) ≡ Some x → (find p xs ≡ Some x → p x ≡ true) → p x ≡ true
    cases true h k rest = ap p (sym (same_Some first x k)) ∙ h
    cases false h k rest = rest k

pub find_all : {X : Type 0} (p : X → Bool) (P : X → Type 0) (xs : List X) (x : X) → AllByRecursion P xs → find p xs ≡ Some x → P x
find_all p P [] x all e = absurd (none-some x e)
find_all p P (first ∷ xs) x all e = cases (p first) e (find_all p P xs x all.1)
  where
    cases : (t : Bool) → cond t (Some first) (find p xs) ≡ Some x → (find p xs ≡ Some x → P x) → P x
    cases true k rest = subst P (same_Some first x k) all.0
    cases false k rest = rest k

pub find_none : {X : Type 0} (p : X → Bool) (xs : List X) → find p xs ≡ None → AllByRecursion (λ x. p x ≡ false) xs
find_none p [] e = tt
find_none p (first ∷ xs) e = cases (p first) refl e (find_none p xs)
  where
    cases : (t : Bool) → p first ≡ t → cond t (Some first) (find p xs) ≡ None → (find p xs ≡ None → AllByRecursion (λ x. p x ≡ false) xs) → AllByRecursion (λ x. p x ≡ false) (first ∷ xs)
    cases true h k rest = absurd (none-some first (sym k))
    cases false h k rest = (h, rest k)

-- a table that is found drives its signal
pub found_driver : (p : Table → Bool) (tables : List Table) (table : Table) → all_different (outputs_of tables) ≡ true → find p tables ≡ Some table → driver tables table.output ≡ Some table
unfolding driver
found_driver p [] table different e = absurd (none-some table e)
found_driver p (first ∷ tables) table different e = cases (p first) e (found_driver p tables table (different_tail first.output (outputs_of tables) different))
  where
    cases : (t : Bool) → cond t (Some first) (find p tables) ≡ Some table → (find p tables ≡ Some table → driver tables table.output ≡ Some table) → driver (first ∷ tables) table.output ≡ Some table
    cases true k rest =
        ap (λ (b : Bool). cond b (Some first) (driver tables table.output)) (ap (λ (made : Table). bytes_eq made.output first.output) (sym (same_Some first table k)) ∙ name_itself first.output) ∙ k
    cases false k rest =
        ap (λ (b : Bool). cond b (Some first) (driver tables table.output))
        (name_not table.output first.output (λ same. false≢true (sym (different_head first.output (outputs_of tables) different)
        ∙ subst (λ (name : List ℕ). has (outputs_of tables) name ≡ true) same (driver_output tables table.output table (rest k))))) ∙ rest k

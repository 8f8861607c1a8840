-- The names at places, as names are put behind the last.
use Rattle.std.proofs.Common.{◌≡◌, ℕ, zero, suc, Bool, true, false, if◌then◌else◌, Some, List, [], ◌∷◌, ◌++◌, slice_get, bytes_eq, refl, sym, ap, ◌∙◌}
use Rattle.std.proofs.lemmas.Option.{none-some}
use Rattle.circuit_model.specs.Names.{has, all_different}
use Rattle.circuit_laws.proofs.Names.{same_name}
use Rattle.subject_tree.specs.Order.{KeepsNames}
use Rattle.circuit_order.proofs.Orders.{different_push}

get_push_left : {X : Type 0} (xs : List X) (y x : X) (i : ℕ) → slice_get xs i ≡ Some x → slice_get (xs ++ y ∷ []) i ≡ Some x
get_push_left [] y x i at = absurd (none-some x at)
get_push_left (z ∷ zs) y x zero at = at
get_push_left (z ∷ zs) y x (suc i) at = get_push_left zs y x i at

-- a name was put in where it was not there
abbrev pub IsPutIn : List (List ℕ) → List (List ℕ) → List ℕ → Type 0
IsPutIn old new name = new ≡ (if has old name then old else old ++ name ∷ [])

pub put-different : (old new : List (List ℕ)) (name : List ℕ) → IsPutIn old new name → all_different old ≡ true → all_different new ≡ true
put-different old new name put different = cases (has old name) refl put
  where
    cases : (b : Bool) → has old name ≡ b → new ≡ (if b then old else old ++ name ∷ []) → all_different new ≡ true
    cases true e is = ap all_different is ∙ different
    cases false e is = ap all_different is ∙ different_push old name different e

pub put-keeps_names : (old new : List (List ℕ)) (name : List ℕ) → IsPutIn old new name → KeepsNames old new
put-keeps_names old new name put = cases (has old name) put
  where
    cases : (b : Bool) → new ≡ (if b then old else old ++ name ∷ []) → KeepsNames old new
    cases true is i x at = ap (λ (xs : List (List ℕ)). slice_get xs i) is ∙ at
    cases false is i x at = ap (λ (xs : List (List ℕ)). slice_get xs i) is ∙ get_push_left old name x i at

pub put-there : (new : List (List ℕ)) (name stored : List ℕ) (place : ℕ) → slice_get new place ≡ Some stored → bytes_eq name stored ≡ true → slice_get new place ≡ Some name
put-there new name stored place at same = at ∙ ap (λ (n : List ℕ). Some n) (sym (same_name name stored same))

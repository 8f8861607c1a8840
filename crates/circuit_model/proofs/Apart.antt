-- Where no clash is found, no two rows clash.
use Rattle.std.proofs.Common.{◌≡◌, ℕ, zero, suc, ◌+◌, ◌<◌, Bool, true, false, Option, Some, None, List, [], ◌∷◌, ◌++◌, refl, ◌∙◌, ap, subst, length, slice_get, arith, length-append, if◌then◌else◌}
use Rattle.std.specs.Option.{option_map, option_or}
use Rattle.std.proofs.lemmas.List.{append_assoc}
use Rattle.circuit_model.specs.declared.machine.MachineRow.{MachineRow}
use Rattle.circuit_model.specs.Clashes.{clash, clash_with, clash_behind, first_clash}

same-item : {A : Type 0} (a b : A) → Some a ≡ Some b → a ≡ b
same-item a b e = cc

in-front : {A : Type 0} (xs ys : List A) (i : ℕ) (x : A) → i < length xs → slice_get (xs ++ ys) i ≡ Some x → slice_get xs i ≡ Some x
in-front [] ys i x less at = let no : ⊥ = omega (arith, less) in absurd no
in-front (y ∷ xs) ys zero x less at = at
in-front (y ∷ xs) ys (suc i) x less at = in-front xs ys i x (omega (arith, less)) at

no-clash-with : (place : ℕ) (rows : List MachineRow) (row : MachineRow) → clash_with place rows row ≡ None
    → (i : ℕ) (earlier : MachineRow) → slice_get rows i ≡ Some earlier → clash earlier row ≡ false
unfolding clash_with
no-clash-with place [] row none i earlier at = let no : None ≡ Some earlier = at in cc
no-clash-with place (first ∷ rows) row none i earlier at =
    cases (clash first row) refl none i at (λ rest k. no-clash-with (place + 1) rows row rest k earlier)
  where
    cases : (b : Bool) → clash first row ≡ b → (if b then Some place else clash_with (place + 1) rows row) ≡ None
        → (k : ℕ) → slice_get (first ∷ rows) k ≡ Some earlier
        → (clash_with (place + 1) rows row ≡ None → (k : ℕ) → slice_get rows k ≡ Some earlier → clash earlier row ≡ false)
        → clash earlier row ≡ false
    cases true found none k at more = let no : Some place ≡ None = none in cc
    cases false free none zero at more = subst (λ one. clash one row ≡ false) (same-item first earlier at) free
    cases false free none (suc k) at more = more none k at

none-first : {A B : Type 0} (f : A → B) (o : Option A) (rest : Option B) → option_or (option_map f o) rest ≡ None → (o ≡ None) × (rest ≡ None)
none-first f None rest none = (refl, none)
none-first f (Some a) rest none = let no : Some (f a) ≡ None = none in cc

apart-behind : (front rows : List MachineRow) → clash_behind front rows ≡ None → (i k : ℕ) (row later : MachineRow)
    → i < length front + k → slice_get (front ++ rows) i ≡ Some row → slice_get rows k ≡ Some later → clash row later ≡ false
unfolding clash_behind
apart-behind front [] none i k row later before at behind = let no : None ≡ Some later = behind in cc
apart-behind front (first ∷ rows) none i zero row later before at behind =
    let (alone, rest) = none-first (λ earlier. record { earlier = earlier; later = length front }) (clash_with 0 front first) (clash_behind (front ++ first ∷ []) rows) none in
    let here : slice_get front i ≡ Some row = in-front front (first ∷ rows) i row (omega (arith, before)) at in
    subst (λ one. clash row one ≡ false) (same-item first later behind) (no-clash-with 0 front first alone i row here)
apart-behind front (first ∷ rows) none i (suc k) row later before at behind =
    let (alone, rest) = none-first (λ earlier. record { earlier = earlier; later = length front }) (clash_with 0 front first) (clash_behind (front ++ first ∷ []) rows) none in
    let same : front ++ first ∷ [] ++ rows ≡ front ++ (first ∷ rows) = append_assoc front (first ∷ []) rows in
    let longer : i < length (front ++ first ∷ []) + k = omega (arith, before, length-append front (first ∷ [])) in
    apart-behind (front ++ first ∷ []) rows rest i k row later longer (ap (λ all. slice_get all i) same ∙ at) behind

pub apart : (rows : List MachineRow) → first_clash rows ≡ None → (i j : ℕ) (row later : MachineRow) → i < j
    → slice_get rows i ≡ Some row → slice_get rows j ≡ Some later → clash row later ≡ false
apart rows none i j row later before at behind = apart-behind [] rows none i j row later (omega (arith, before)) at behind

-- Lookups by index in a list that was written, appended to or cut, and tests of names.
use Rattle.std.proofs.Common.{◌≡◌, ℕ, ◌<◌, zero, suc, Bool, true, false, not, ◌||◌, ◌&&◌, Some, List, [], ◌∷◌, ◌++◌, length, get_or, set, map, bytes_eq, refl, sym, ap, ◌∙◌, subst, arith, inl, inr, ◌⊎◌}
use Rattle.std.specs.List.{slice_get, flat_map, AllByRecursion}
use Rattle.std.proofs.lemmas.Slice.Eq.{bytes_eq-Decides}
use Rattle.circuit_model.specs.Names.{has, all_different}

-- tests of names
pub same_name : (x y : List ℕ) → bytes_eq x y ≡ true → x ≡ y
same_name x y h = (bytes_eq-Decides x y).0 h

pub name_is : (x y : List ℕ) → x ≡ y → bytes_eq x y ≡ true
name_is x y h = (bytes_eq-Decides x y).1 h

pub name_itself : (x : List ℕ) → bytes_eq x x ≡ true
name_itself x = name_is x x refl

pub name_not : (x y : List ℕ) → (x ≡ y → ⊥) → bytes_eq x y ≡ false
name_not x y h = cases (bytes_eq x y) refl
  where
    cases : (b : Bool) → bytes_eq x y ≡ b → bytes_eq x y ≡ false
    cases true e = absurd (h (same_name x y e))
    cases false e = e

pub apart : (x y : List ℕ) → bytes_eq x y ≡ false → x ≡ y → ⊥
apart x y h e = let t : true ≡ false = sym (name_is x y e) ∙ h in cc

pub name_cases : (x y : List ℕ) → (x ≡ y) ⊎ (x ≡ y → ⊥)
name_cases x y = cases (bytes_eq x y) refl
  where
    cases : (b : Bool) → bytes_eq x y ≡ b → (x ≡ y) ⊎ (x ≡ y → ⊥)
    cases true e = inl (same_name x y e)
    cases false e = inr (apart x y e)

-- items of a list by index
pub get_set_same : {X : Type 0} (xs : List X) (i : ℕ) (x y : X) → slice_get xs i ≡ Some x → slice_get (set xs i y) i ≡ Some y
get_set_same [] i x y h = cc
get_set_same (z ∷ xs) zero x y h = refl
get_set_same (z ∷ xs) (suc i) x y h = get_set_same xs i x y h

pub get_set_other : {X : Type 0} (xs : List X) (i j : ℕ) (y : X) → (j ≡ i → ⊥) → slice_get (set xs i y) j ≡ slice_get xs j
get_set_other [] i j y h = refl
get_set_other (z ∷ xs) zero zero y h = absurd (h refl)
get_set_other (z ∷ xs) zero (suc j) y h = refl
get_set_other (z ∷ xs) (suc i) zero y h = refl
get_set_other (z ∷ xs) (suc i) (suc j) y h = get_set_other xs i j y (λ e. h (ap suc e))

pub get_push_at : {X : Type 0} (xs : List X) (y : X) → slice_get (xs ++ y ∷ []) (length xs) ≡ Some y
get_push_at [] y = refl
get_push_at (x ∷ xs) y = get_push_at xs y

pub get_push_left : {X : Type 0} (xs : List X) (y x : X) (i : ℕ) → slice_get xs i ≡ Some x → slice_get (xs ++ y ∷ []) i ≡ Some x
get_push_left [] y x i h = cc
get_push_left (z ∷ xs) y x zero h = h
get_push_left (z ∷ xs) y x (suc i) h = get_push_left xs y x i h

pub get_push_cases : {X : Type 0} (xs : List X) (y x : X) (i : ℕ) → slice_get (xs ++ y ∷ []) i ≡ Some x → (slice_get xs i ≡ Some x) ⊎ ((i ≡ length xs) × (y ≡ x))
get_push_cases [] y x zero h = inr (refl, cc)
get_push_cases [] y x (suc i) h = cc
get_push_cases (z ∷ xs) y x zero h = inl h
get_push_cases (z ∷ xs) y x (suc i) h = elim (get_push_cases xs y x i h) [ inl a ↦ inl a | inr b ↦ inr (ap suc b.0, b.1) ]

pub get_at : {X : Type 0} (xs : List X) (i : ℕ) (x : X) → i < length xs → slice_get xs i ≡ Some (get_or xs i x)
get_at [] i x lt = absurd (omega arith)
get_at (y ∷ xs) zero x lt = refl
get_at (y ∷ xs) (suc i) x lt = get_at xs i x (omega arith)

-- members of a list of names
pub has-append : (xs ys : List (List ℕ)) (q : List ℕ) → has (xs ++ ys) q ≡ (has xs q || has ys q)
has-append [] ys q = refl
has-append (x ∷ xs) ys q = cases (bytes_eq q x) (has-append xs ys q)
  where
    cases : (b : Bool) → has (xs ++ ys) q ≡ (has xs q || has ys q) → (b || has (xs ++ ys) q) ≡ ((b || has xs q) || has ys q)
    cases true h = refl
    cases false h = h

-- if no name occurs twice, what is in the second of two parts is not in the first
pub apart_parts : (xs ys : List (List ℕ)) (q : List ℕ) → all_different (xs ++ ys) ≡ true → has ys q ≡ true → has xs q ≡ false
unfolding all_different
apart_parts [] ys q h k = refl
apart_parts (x ∷ xs) ys q h k = cases (bytes_eq q x) refl (apart_parts xs ys q (second (has (xs ++ ys) x) (all_different (xs ++ ys)) h) k)
  where
    second : (a b : Bool) → (not a && b) ≡ true → b ≡ true
    second true b e = cc
    second false b e = e

    first : (a b : Bool) → (not a && b) ≡ true → a ≡ false
    first true b e = cc
    first false b e = refl

    or_second : (a : Bool) → (a || true) ≡ true
    or_second true = refl
    or_second false = refl

    cases : (b : Bool) → bytes_eq q x ≡ b → has xs q ≡ false → (b || has xs q) ≡ false
    cases true e r =
        let n : has (xs ++ ys) x ≡ false = first (has (xs ++ ys) x) (all_different (xs ++ ys)) h in
        let m : has (xs ++ ys) q ≡ true = has-append xs ys q ∙ (ap (λ (b : Bool). has xs q || b) k ∙ or_second (has xs q)) in
        let z : true ≡ false = sym m ∙ (ap (has (xs ++ ys)) (same_name q x e) ∙ n) in absurd cc
    cases false e r = r

-- all parts of a list, by recursion, at an index
pub all_at : {X : Type 0} (P : X → Type 0) (xs : List X) (i : ℕ) (x : X) → AllByRecursion P xs → i < length xs → x ≡ get_or xs i x → P x
all_at P [] i x h lt e = absurd (omega arith)
all_at P (y ∷ xs) zero x h lt e = subst (λ z. P z) (sym e) h.0
all_at P (y ∷ xs) (suc i) x h lt e = all_at P xs i x h.1 (omega arith) e

-- a name found by a loop is among the names
pub has_map_at : {X : Type 0} (f : X → List ℕ) (xs : List X) (i : ℕ) (x : X) (q : List ℕ) → i < length xs → x ≡ get_or xs i x → bytes_eq q (f x) ≡ true → has (map f xs) q ≡ true
has_map_at f [] i x q lt e h = absurd (omega arith)
has_map_at f (y ∷ xs) zero x q lt e h = ap (λ z. bytes_eq q (f z) || has (map f xs) q) (sym e) ∙ ap (λ b. b || has (map f xs) q) h
has_map_at f (y ∷ xs) (suc i) x q lt e h = or_found (bytes_eq q (f y)) (has_map_at f xs i x q (omega arith) e h)
  where
    or_found : (b : Bool) → has (map f xs) q ≡ true → (b || has (map f xs) q) ≡ true
    or_found true k = refl
    or_found false k = k

pub has_flat_at : {X : Type 0} (f : X → List (List ℕ)) (xs : List X) (i : ℕ) (x : X) (q : List ℕ) → i < length xs → x ≡ get_or xs i x → has (f x) q ≡ true → has (flat_map f xs) q ≡ true
has_flat_at f [] i x q lt e h = absurd (omega arith)
has_flat_at f (y ∷ xs) zero x q lt e h = has-append (f y) (flat_map f xs) q ∙ ap (λ b. b || has (flat_map f xs) q) (ap (λ z. has (f z) q) (sym e) ∙ h)
has_flat_at f (y ∷ xs) (suc i) x q lt e h = has-append (f y) (flat_map f xs) q ∙ or_found (has (f y) q) (has_flat_at f xs i x q (omega arith) e h)
  where
    or_found : (b : Bool) → has (flat_map f xs) q ≡ true → (b || has (flat_map f xs) q) ≡ true
    or_found true k = refl
    or_found false k = k

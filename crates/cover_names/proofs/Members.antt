-- Membership in a list: by recursion, and as std defines it, by an index.
use Rattle.std.proofs.Common.{◌≡◌, ◌⊎◌, ℕ, ◌<◌, zero, suc, List, [], ◌∷◌, length, get_or, Contains, refl, sym, subst, arith, inl, inr}

-- an item of a list
abbrev pub Has : {X : Type 0} → X → List X → Type 0
Has x [] = ⊥
Has x (y ∷ ys) = (x ≡ y) ⊎ Has x ys

pub contains_has : {X : Type 0} (x : X) (xs : List X) → Has x xs → Contains xs x
contains_has x [] m = absurd m
contains_has x (y ∷ ys) m =
    elim m as (λ _. Contains (y ∷ ys) x) [
      | inl e ↦ (0, omega arith, sym e)
      | inr n ↦ (let p = contains_has x ys n in (suc p.0, omega (arith, p.1), p.2))
    ]

has_at : {X : Type 0} (xs : List X) (place : ℕ) (other : X) → place < length xs → Has (get_or xs place other) xs
has_at [] place other h = absurd (omega arith)
has_at (x ∷ xs) zero other h = inl refl
has_at (x ∷ xs) (suc place) other h = inr (has_at xs place other (omega arith))

pub has_contains : {X : Type 0} (x : X) (xs : List X) → Contains xs x → Has x xs
has_contains x xs (k, lt, e) = subst (λ y. Has y xs) e (has_at xs k x lt)

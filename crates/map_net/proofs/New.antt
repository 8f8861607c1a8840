-- New names, one after the other.
use Rattle.std.proofs.Common.{◌≡◌, ℕ, ◌+◌, ◌^◌, ◌<◌, ◌≤◌, true, false, List, [], ◌∷◌, ◌++◌}
use Rattle.std.proofs.Common.{refl, sym, subst, ◌∙◌}
use Rattle.circuit_model.specs.Names.{has}
use Rattle.net_core.specs.Fresh.{bracketed}
use Rattle.map_net.specs.Naming.{AreNewTo}

-- no new name
pub new_none : (used : List (List ℕ)) (start : ℕ) (names : List (List ℕ)) → names ≡ []
    → AreNewTo used start names start
unfolding AreNewTo
new_none used start names none = subst (λ (xs : List (List ℕ)). AreNewTo used start xs start)
    (sym none) refl

-- one new name
pub new_one : (used : List (List ℕ)) (start number stop : ℕ) (name : List ℕ) → start ≤ number
    → number < 2 ^ 64 → name ≡ bracketed number → has used (bracketed number) ≡ false
    → ((other : ℕ) → start ≤ other → other < number → has used (bracketed other) ≡ true)
    → number + 1 ≡ stop → AreNewTo used start (name ∷ []) stop
unfolding AreNewTo
new_one used start number stop name from fits is free taken next =
    (number, from, fits, is, free, taken, next)

-- new names behind new names
pub new_more : (used : List (List ℕ)) (start middle stop : ℕ) (names more : List (List ℕ))
    → AreNewTo used start names middle → AreNewTo used middle more stop
    → AreNewTo used start (names ++ more) stop
unfolding AreNewTo
new_more used start middle stop [] more first second = subst (λ (n : ℕ). AreNewTo used n more stop)
    (sym first) second
new_more used start middle stop (name ∷ names) more first second = (
  first.0,
  first.1,
  first.2,
  first.3,
  first.4,
  first.5,
  new_more used (first.0 + 1) middle stop names more first.6 second,
)

-- names that are new to a list are new to one with the same names
pub new_same : (used other : List (List ℕ)) → ((name : List ℕ) → has used name ≡ has other name)
    → (start stop : ℕ) (names : List (List ℕ)) → AreNewTo used start names stop
    → AreNewTo other start names stop
unfolding AreNewTo
new_same used other same start stop [] new = new
new_same used other same start stop (name ∷ names) new = (
  new.0,
  new.1,
  new.2,
  new.3,
  sym (same (bracketed new.0)) ∙ new.4,
  λ n from below. sym (same (bracketed n)) ∙ new.5 n from below,
  new_same used other same (new.0 + 1) stop names new.6,
)

-- a new name behind new names
pub new_put : (used : List (List ℕ)) (start middle stop : ℕ) (names after : List (List ℕ))
    (name : List ℕ) → AreNewTo used start names middle → AreNewTo used middle (name ∷ []) stop
    → after ≡ names ++ name ∷ [] → AreNewTo used start after stop
new_put used start middle stop names after name first second put =
    subst (λ (xs : List (List ℕ)). AreNewTo used start xs stop) (sym put)
    (new_more used start middle stop names (name ∷ []) first second)

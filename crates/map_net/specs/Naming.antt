-- The names of new signals: numbers in brackets that occur nowhere else.
-- Source: the names `[n]` are those of SIS's own new nodes (UCB/ERL M92/41); that the least free
-- numbers are taken, in order, is the project's own.
use Rattle.std.specs.Prelude.{◌≡◌, ℕ, ◌+◌, ◌^◌, ◌<◌, ◌≤◌, true, false, List, [], ◌∷◌}
use Rattle.circuit_model.specs.Names.{has}
use Rattle.net_core.specs.Fresh.{bracketed}

-- names are those numbers in brackets, from one number up to another and in order, that are not
-- used, each of them one that a machine word holds
unfoldable pub AreNewTo : List (List ℕ) → ℕ → List (List ℕ) → ℕ → Type 0
AreNewTo used start [] stop = start ≡ stop
AreNewTo used start (name ∷ names) stop =
    (number : ℕ) × (start ≤ number) × (number < 2 ^ 64) × (name ≡ bracketed number)
    × (has used (bracketed number) ≡ false)
    × ((other : ℕ) → start ≤ other → other < number → has used (bracketed other) ≡ true)
    × AreNewTo used (number + 1) names stop

-- names are the first numbers in brackets that are not used, in order
abbrev pub AreNew : List (List ℕ) → List (List ℕ) → Type 0
AreNew used names = (stop : ℕ) × AreNewTo used 0 names stop

-- The first name of a list that breaks a rule: it is repeated, it is missing, or it is listed
-- twice. Source: BLIF appendix of the SIS report (UCB/ERL M92/41): signals are known by their names
-- alone, each has one driver, and each that is read has a driver.
use Rattle.std.specs.Prelude.{ℕ, Bool, not, ◌||◌, nat_lt, Option, Some, None, List, [], ◌∷◌, ◌++◌, find, count_by, bytes_eq, if◌then◌else◌}
use Rattle.circuit_model.specs.Names.{has}

-- the first of the names that is known, or that repeats an earlier one
unfoldable pub first_again : List (List ℕ) → List (List ℕ) → Option (List ℕ)
first_again known [] = None
first_again known (name ∷ names) = if has known name then Some name else first_again (known ++ name ∷ []) names

-- the first of the names that is not known
unfoldable pub first_missing : List (List ℕ) → List (List ℕ) → Option (List ℕ)
first_missing known names = find (λ name. not (has known name)) names

-- whether a name occurs in a list at least twice
unfoldable pub is_twice : List (List ℕ) → List ℕ → Bool
is_twice names name = nat_lt 1 (count_by (bytes_eq name) names)

-- the first of the names in order that occurs twice among the inputs, or twice among the outputs
unfoldable pub first_listed_twice : List (List ℕ) → List (List ℕ) → List (List ℕ) → Option (List ℕ)
first_listed_twice inputs outputs in_order = find (λ name. is_twice inputs name || is_twice outputs name) in_order

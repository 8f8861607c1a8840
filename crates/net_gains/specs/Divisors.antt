-- Divisors as keys: the cover of each, and their order. Source: Rajski and Vasudevamurthy, "The
-- testability-preserving concurrent decomposition and factorization of Boolean expressions" (IEEE
-- Transactions on CAD 11, 1992): double-cube divisors and single cubes. The order is the project's
-- own.
use Rattle.std.specs.Prelude.{◌≡◌, ℕ, false, List, [], ◌∷◌, if◌then◌else◌}
use Rattle.std.specs.Ordering.{ordering_then}
use Rattle.std.specs.declared.cmp.Ordering.{Ordering}
use Rattle.std.specs.declared.cmp.Ordering.TheVariants.{Equal}
use Rattle.cover_names.specs.Literals.{sorted}
use Rattle.net_gains.specs.CodedGains.{numbers_cmp, is_one}
use Rattle.net_gains.specs.declared.divisor.Divisor.{Divisor}

-- the two cubes, or the first alone if the second has no number
abbrev pub cover_with : List ℕ → List ℕ → List (List ℕ)
cover_with first second = if is_one second then first ∷ [] else first ∷ second ∷ []

abbrev pub cover_of : Divisor → List (List ℕ)
cover_of divisor = cover_with divisor.first divisor.second

-- by the first cube, then by the second
abbrev pub divisor_cmp : Divisor → Divisor → Ordering
divisor_cmp one other = ordering_then (numbers_cmp one.first other.first) (numbers_cmp one.second other.second)

-- a divisor is the sum of two cubes that have numbers and differ
abbrev pub Sums : List ℕ → List ℕ → Divisor → Type 0
Sums first second divisor =
    is_one first ≡ false → is_one second ≡ false → (numbers_cmp first second ≡ Equal → ⊥) → cover_of divisor ≡ sorted numbers_cmp (first ∷ second ∷ [])

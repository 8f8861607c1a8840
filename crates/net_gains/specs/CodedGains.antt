-- What rows of a table save when a sum of two cubes or a product of two literals is extracted, if
-- literals are numbers: cubes are rising lists of numbers, covers lists of cubes. Source: Rajski
-- and Vasudevamurthy, "The testability-preserving concurrent decomposition and factorization of
-- Boolean expressions" (IEEE Transactions on CAD 11, 1992): the weights of double-cube divisors and
-- of single cubes.
use Rattle.std.specs.Prelude.{ℕ, ◌+◌, ◌-◌, Bool, true, false, ◌&&◌, not, nat_eq, if◌then◌else◌, List, [], ◌∷◌, filter, length}
use Rattle.std.specs.List.{list_any, sum_by}
use Rattle.std.specs.Cmp.Lexicographic.{slice_cmp}
use Rattle.std.specs.Ordering.{nat_cmp, is_eq}
use Rattle.std.specs.declared.cmp.Ordering.{Ordering}
use Rattle.cover_names.specs.Literals.{sorted}
use Rattle.net_gains.specs.Gains.{over_pairs}

-- cubes number by number, a proper prefix first; covers cube by cube
abbrev pub numbers_cmp : List ℕ → List ℕ → Ordering
numbers_cmp = slice_cmp nat_cmp

abbrev pub lists_cmp : List (List ℕ) → List (List ℕ) → Ordering
lists_cmp = slice_cmp numbers_cmp

-- the numbers of a cube that another one has too, and those that it lacks
abbrev pub shared : List ℕ → List ℕ → List ℕ
shared one other = filter (λ number. list_any (nat_eq number) other) one

abbrev pub own : List ℕ → List ℕ → List ℕ
own one other = filter (λ number. not (list_any (nat_eq number) other)) one

-- the same cover
abbrev pub same_lists : List (List ℕ) → List (List ℕ) → Bool
same_lists one other = is_eq (lists_cmp one other)

-- whether a cube has no literal
abbrev pub is_one : List ℕ → Bool
is_one [] = true
is_one (number ∷ numbers) = false

-- the sum of what each of two cubes has besides the other
abbrev pub sum_of_two : List ℕ → List ℕ → List (List ℕ)
sum_of_two one other = sorted numbers_cmp (own one other ∷ own other one ∷ [])

-- what two rows save if that sum is extracted, the literals of its own table not subtracted
unfoldable pub sum_gain : List (List ℕ) → List ℕ → List ℕ → ℕ
sum_gain cover one other =
    if not (is_one (own one other)) && not (is_one (own other one)) && same_lists cover (sum_of_two one other)
    then length (shared one other) + length (own one other) + length (own other one) - 1 else 0

-- what a row saves if the product of two of its literals is extracted: one literal
unfoldable pub product_gain : List (List ℕ) → ℕ → ℕ → ℕ
product_gain cover one other = if same_lists cover ((one ∷ other ∷ []) ∷ []) then 1 else 0

-- what rows save together; they are expected to be rising cubes that all differ
unfoldable pub gains : List (List ℕ) → List (List ℕ) → ℕ
gains cover cubes = over_pairs (sum_gain cover) cubes + sum_by (over_pairs (product_gain cover)) cubes

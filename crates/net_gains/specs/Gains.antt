-- What the rows of a table save when a divisor is extracted: a sum of two cubes (a double-cube
-- divisor) by pairs of rows, a product of two literals (a single-cube divisor) by pairs of a row's
-- literals. Source: Rajski and Vasudevamurthy, "The testability-preserving concurrent decomposition
-- and factorization of Boolean expressions" (IEEE Transactions on CAD 11, 1992): the weights of
-- double-cube divisors and of single cubes.
use Rattle.std.specs.Prelude.{ℕ, ◌+◌, ◌-◌, Bool, true, false, ◌&&◌, not, if◌then◌else◌, List, [], ◌∷◌, length}
use Rattle.std.specs.List.{sum_by}
use Rattle.std.specs.Ordering.{is_eq}
use Rattle.net_candidates.specs.Candidates.{shared, own}
use Rattle.cover_names.specs.Literals.{Cube, NamedCover, cube_cmp, cover_cmp, sorted}
use Rattle.cover_names.specs.declared.literal.Literal.{Literal}

-- the sum over all pairs of items, the earlier one first
unfoldable pub over_pairs : {X : Type 0} → (X → X → ℕ) → List X → ℕ
over_pairs gain [] = 0
over_pairs gain (item ∷ items) = sum_by (gain item) items + over_pairs gain items

-- the same cover
abbrev pub same_cover : NamedCover → NamedCover → Bool
same_cover one other = is_eq (cover_cmp one other)

-- whether a cube has no literal
abbrev pub is_one : Cube → Bool
is_one [] = true
is_one (literal ∷ literals) = false

-- the sum of what each of two cubes has besides the other
abbrev pub sum_of_two : Cube → Cube → NamedCover
sum_of_two one other = sorted cube_cmp (own one other ∷ own other one ∷ [])

-- what two rows save if that sum is extracted: they become one row, which has what they share and
-- the sum's literal. The literals of the sum's own table are not subtracted
unfoldable pub sum_gain : NamedCover → Cube → Cube → ℕ
sum_gain cover one other =
    if not (is_one (own one other)) && not (is_one (own other one)) && same_cover cover (sum_of_two one other)
    then length (shared one other) + length (own one other) + length (own other one) - 1 else 0

-- what a row saves if the product of two of its literals is extracted: one literal
unfoldable pub product_gain : NamedCover → Literal → Literal → ℕ
product_gain cover one other = if same_cover cover ((one ∷ other ∷ []) ∷ []) then 1 else 0

-- what rows save together; they are expected to be sorted cubes that all differ
unfoldable pub gains : NamedCover → List Cube → ℕ
gains cover cubes = over_pairs (sum_gain cover) cubes + sum_by (over_pairs (product_gain cover)) cubes

-- The sum of what each of two cubes has that the other lacks.
-- Source: Rajski and Vasudevamurthy (IEEE Transactions on CAD 11, 1992): double-cube divisors and
-- their base.
use Rattle.std.specs.Prelude.{◌≡◌, ◌≢◌, ◌⊎◌, Option, Some, None, [], ◌∷◌}
use Rattle.net_candidates.specs.Candidates.{own}
use Rattle.cover_names.specs.Literals.{Cube, NamedCover, cube_cmp, sorted}

-- the sum of what each of two cubes has that the other lacks, if both have something
abbrev pub IsSumOfTwo : Cube → Cube → Option NamedCover → Type 0
IsSumOfTwo one other None = (own one other ≡ []) ⊎ (own other one ≡ [])
IsSumOfTwo one other (Some cover) = (own one other ≢ []) × (own other one ≢ []) × (cover ≡ sorted cube_cmp (own one other ∷ own other one ∷ []))

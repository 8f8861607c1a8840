-- Prime and irredundant covers. Source: De Micheli, "Synthesis and Optimization of Digital
-- Circuits", chapter 7: an implicant is prime if none of its literals can be removed, and a cover
-- is irredundant if none of its rows can be removed.
use Rattle.std.specs.Prelude.{◌≡◌, ℕ, ◌<◌, Bool, true, false, not, ◌&&◌, Option, Some, None, List, ◌∷◌, ◌++◌, length, slice_index_or, slice_set}
use Rattle.sis_base.specs.Rows.{some_matches, IsPoint}
use Rattle.cover_min.specs.Points.{PointOf}
use Rattle.cover_min.specs.Minimum.{Meaning}

-- rows give the function wherever it is not free
pub record Agrees (meaning : Meaning) (rows : List (List (Option Bool))) : Type 0 where
  pub on : (point : List Bool) → IsPoint meaning.width point → meaning.on point ≡ true
      → some_matches rows point ≡ true
  pub off : (point : List Bool) → IsPoint meaning.width point → meaning.off point ≡ true
      → some_matches rows point ≡ false

-- a row has no point at which the function must be 0, and without any one of its literals it would
-- have one
pub record IsPrime (meaning : Meaning) (row : List (Option Bool)) : Type 0 where
  pub implicant : PointOf meaning.off row → ⊥
  pub needed : (place : ℕ) (bit : Bool) → place < length row
      → slice_index_or row place None ≡ Some bit → PointOf meaning.off (slice_set row place None)

-- each row has a point at which the function must be 1 and that no other row has
abbrev pub IsIrredundant : Meaning → List (List (Option Bool)) → Type 0
IsIrredundant meaning rows =
    (before after : List (List (Option Bool))) (row : List (Option Bool))
    → rows ≡ before ++ row ∷ after
    → PointOf (λ point. meaning.on point && not (some_matches (before ++ after) point)) row

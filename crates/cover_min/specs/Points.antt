-- Whether a test holds at some point, of a width or of a row. Source: De Micheli, "Synthesis and
-- Optimization of Digital Circuits", chapter 7 (a row is the set of its points).
use Rattle.std.specs.Prelude.{◌≡◌, ℕ, zero, suc, Bool, true, false, not, ◌&&◌, ◌||◌, Option, List, [], ◌∷◌, length}
use Rattle.sis_base.specs.Rows.{matches, some_matches, IsPoint}

-- whether a test holds at some point of a width
unfoldable pub some_point : ℕ → (List Bool → Bool) → Bool
some_point zero test = test []
some_point (suc width) test = some_point width (λ point. test (false ∷ point))
    || some_point width (λ point. test (true ∷ point))

-- whether a test holds at some point of a row
unfoldable pub has_point : (List Bool → Bool) → List (Option Bool) → Bool
has_point test row = some_point (length row) (λ point. matches row point && test point)

-- whether a test holds at some point that a row has and no other row has
abbrev pub has_own_point : (List Bool → Bool) → List (Option Bool) → List (List (Option Bool))
    → Bool
has_own_point test row others = has_point (λ point. test point
    && not (some_matches others point)) row

-- a point of a row at which a test holds
pub record PointOf (test : List Bool → Bool) (row : List (Option Bool)) : Type 0 where
  pub point : List Bool
  pub wide : IsPoint (length row) point
  pub within : matches row point ≡ true
  pub holds : test point ≡ true

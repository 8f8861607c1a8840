-- Tests that an oracle refuses, and minima that are not found for that reason. Source: Brayton,
-- Hachtel, McMullen, Sangiovanni-Vincentelli, "Logic Minimization Algorithms for VLSI Synthesis"
-- (expand and irredundant): the tests by which literals and rows are removed.
use Rattle.std.specs.Prelude.{◌≡◌, ℕ, ◌<◌, ◌⊎◌, ◌↔◌, Bool, true, Option, None, List, [], ◌∷◌, ◌++◌}
use Rattle.std.specs.Prelude.{length, map, slice_index_or, slice_set}
use Rattle.std.specs.List.{Contains}
use Rattle.cube_cover.specs.Literals.{not_dash}
use Rattle.cover_min.specs.Minimum.{Meaning, widened_to, widened, with_needed}

-- when an oracle refuses to answer whether a row has a point at which the function must be 0, and
-- whether a row has a point of its own, beside others, at which it must be 1
pub record Refusals : Type 1 where
  pub off : List (Option Bool) → Type 0
  pub own : List (Option Bool) → List (List (Option Bool)) → Type 0

-- the refusals of an oracle that refuses no test
abbrev pub no_refusals : Refusals
no_refusals = record { off = λ row. ⊥; own = λ row others. ⊥ }

-- the same tests are refused
pub record SameRefusals (one other : Refusals) : Type 0 where
  pub off : (row : List (Option Bool)) → one.off row ↔ other.off row
  pub own : (row : List (Option Bool)) (others : List (List (Option Bool))) → one.own row others
      ↔ other.own row others

-- one of the first columns of a row has a literal, and the test by which it may be removed is
-- refused, after those before it were removed where possible
pub record RefusesTo (meaning : Meaning) (refusals : Refusals) (row : List (Option Bool))
    (places : ℕ) : Type 0 where
  pub place : ℕ
  pub before : place < places
  pub literal : not_dash (slice_index_or row place None) ≡ true
  pub refused : refusals.off (slice_set (widened_to meaning.off row place) place None)

-- the test by which a literal of one of the rows may be removed is refused
pub record RefusesLiteral (meaning : Meaning) (refusals : Refusals)
    (rows : List (List (Option Bool))) : Type 0 where
  pub row : List (Option Bool)
  pub among : Contains rows row
  pub refused : RefusesTo meaning refusals row (length row)

-- after rows that were kept, a row is tested beside others: those kept of all rows before it, and
-- those still to come
unfoldable pub IsJudged : (List Bool → Bool) → List (List (Option Bool)) → List (List (Option Bool))
    → List (Option Bool) → List (List (Option Bool)) → Type 0
IsJudged on kept [] row others = ⊥
IsJudged on kept (first ∷ rest) row others =
    ((row ≡ first) × (others ≡ kept ++ rest)) ⊎ IsJudged on (with_needed on kept first rest) rest
    row others

-- after rows that were kept, the test by which one of those still to come may be removed is refused
pub record RefusesRow (meaning : Meaning) (refusals : Refusals)
    (kept coming : List (List (Option Bool))) : Type 0 where
  pub row : List (Option Bool)
  pub others : List (List (Option Bool))
  pub judged : IsJudged meaning.on kept coming row others
  pub refused : refusals.own row others

-- a test by which the minimum of rows is found is refused: that of a literal of a row, or that of
-- an expanded row beside the rows that are left
abbrev pub RefusesMinimum : Meaning → Refusals → List (List (Option Bool)) → Type 0
RefusesMinimum meaning refusals rows =
    RefusesLiteral meaning refusals rows ⊎ RefusesRow meaning refusals []
    (map (widened meaning.off) rows)

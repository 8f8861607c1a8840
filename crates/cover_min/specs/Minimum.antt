-- The minimum of a cover under don't-cares: its rows are expanded, and rows that are not needed are
-- removed. Source: Brayton, Hachtel, McMullen, Sangiovanni-Vincentelli, "Logic Minimization
-- Algorithms for VLSI Synthesis" (expand and irredundant); De Micheli, "Synthesis and Optimization
-- of Digital Circuits", chapter 7 (prime and irredundant covers, don't-cares). Both choices are
-- greedy: literals from the first column to the last, rows from the first to the last.
use Rattle.std.specs.Prelude.{ℕ, zero, suc, Bool, if◌then◌else◌, Option, None, List, [], ◌∷◌, ◌++◌}
use Rattle.std.specs.Prelude.{length, map, slice_set}
use Rattle.cover_min.specs.Points.{has_point, has_own_point}

-- what an oracle knows: the points at which a function must be 1 and those at which it must be 0;
-- all others are free (no function fits if a point is in both sets)
pub record Meaning : Type 0 where
  pub width : ℕ
  pub on : List Bool → Bool
  pub off : List Bool → Bool

-- a row without its literal in a column, if no point that it then has is one at which the function
-- must be 0; else the row
unfoldable pub widened_at : (List Bool → Bool) → List (Option Bool) → ℕ → List (Option Bool)
widened_at off row place = if has_point off (slice_set row place None) then row
    else slice_set row place None

-- a row after its literals in the first columns were removed, one after the other, where possible
unfoldable pub widened_to : (List Bool → Bool) → List (Option Bool) → ℕ → List (Option Bool)
widened_to off row zero = row
widened_to off row (suc place) = widened_at off (widened_to off row place) place

-- a row with the literals that stay; those in earlier columns are tested first
abbrev pub widened : (List Bool → Bool) → List (Option Bool) → List (Option Bool)
widened off row = widened_to off row (length row)

-- the rows that were kept, followed by a row if it has a point at which the function must be 1 that
-- neither they nor the rows still to come have
unfoldable pub with_needed : (List Bool → Bool) → List (List (Option Bool)) → List (Option Bool)
    → List (List (Option Bool)) → List (List (Option Bool))
with_needed on kept row rest = if has_own_point on row (kept ++ rest) then kept ++ row ∷ []
    else kept

-- the rows that were kept, followed by those still to come that are needed
unfoldable pub needed_behind : (List Bool → Bool) → List (List (Option Bool))
    → List (List (Option Bool)) → List (List (Option Bool))
needed_behind on kept [] = kept
needed_behind on kept (row ∷ rest) = needed_behind on (with_needed on kept row rest) rest

-- the minimum of rows: each is expanded, and then those that are needed are kept; earlier rows are
-- tested first
unfoldable pub minimum_rows : Meaning → List (List (Option Bool)) → List (List (Option Bool))
minimum_rows meaning rows = needed_behind meaning.on [] (map (widened meaning.off) rows)

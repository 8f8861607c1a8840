-- Invariants of the loops over the literals of a row and over the rows of a cover. No public clause
-- needs these definitions. Source: Brayton, Hachtel, McMullen, Sangiovanni-Vincentelli, "Logic
-- Minimization Algorithms for VLSI Synthesis" (irredundant).
use Rattle.std.specs.Prelude.{◌≡◌, ℕ, ◌≤◌, ◌↔◌, Bool, true, Option, Some, None, is_none, List, []}
use Rattle.std.specs.Prelude.{◌∷◌, ◌++◌, length, map, take, drop, slice_index_or, slice_set}
use Rattle.sis_base.specs.Rows.{HasWidth}
use Rattle.cube_cover.specs.Covers.{Shape}
use Rattle.cube_cover.specs.Literals.{not_dash}
use Rattle.cover_min.specs.Minimum.{Meaning, widened, needed_behind}
use Rattle.cover_min.specs.Refusals.{Refusals, RefusesLiteral, RefusesRow}

-- a column of a row has a literal, and the test by which it may be removed is refused
pub record RefusesAt (refusals : Refusals) (row : List (Option Bool)) (place : ℕ) : Type 0 where
  pub literal : not_dash (slice_index_or row place None) ≡ true
  pub refused : refusals.off (slice_set row place None)

-- the finished rows and those still to come, expanded, are all rows expanded; and a test of a
-- literal of all rows is refused exactly if one of those still to come is
pub record IsSpreading (meaning : Meaning) (refusals : Refusals) (all : List (List (Option Bool)))
    (made : Shape) (coming : List (List (Option Bool))) : Type 0 where
  pub width : made.width ≡ meaning.width
  pub widths : HasWidth meaning.width coming
  pub rows : made.rows ++ map (widened meaning.off) coming ≡ map (widened meaning.off) all
  pub refuses : RefusesLiteral meaning refusals coming ↔ RefusesLiteral meaning refusals all

-- the held row, followed by the rows after it
abbrev pub in_hand : Option (List (Option Bool)) → List (List (Option Bool))
    → List (List (Option Bool))
in_hand None rest = rest
in_hand (Some row) rest = row ∷ rest

-- the rows before an index are those that were kept; the held row and those from the index on are
-- still to come
pub record Holds (kept coming : List (List (Option Bool))) (others : Shape) (place : ℕ)
    (hand : Option (List (Option Bool))) : Type 0 where
  pub inside : place ≤ length others.rows
  pub before : take place others.rows ≡ kept
  pub behind : in_hand hand (drop place others.rows) ≡ coming
  pub last : is_none hand ≡ true → place ≡ length others.rows

-- the rows that will be left are those that are left of all rows; and the test of one of all rows
-- is refused exactly if that of one still to come is
pub record IsTrimming (meaning : Meaning) (refusals : Refusals) (all : List (List (Option Bool)))
    (others : Shape) (place : ℕ) (hand : Option (List (Option Bool))) : Type 0 where
  pub inside : place ≤ length others.rows
  pub last : is_none hand ≡ true → place ≡ length others.rows
  pub width : others.width ≡ meaning.width
  pub widths : HasWidth meaning.width (in_hand hand (drop place others.rows))
  pub needed : needed_behind meaning.on (take place others.rows)
      (in_hand hand (drop place others.rows)) ≡ needed_behind meaning.on [] all
  pub refuses : RefusesRow meaning refusals (take place others.rows)
      (in_hand hand (drop place others.rows)) ↔ RefusesRow meaning refusals [] all

-- A cover restricted to the points at which some bits are the values of other covers. Source: De
-- Micheli, "Synthesis and Optimization of Digital Circuits", chapter 8 (satisfiability don't-care
-- conditions: where a variable differs from its local function no point can occur), and chapter 7
-- for covers.
use Rattle.std.specs.Prelude.{ℕ, Bool, false, not, ◌&&◌, Option, Some, List, [], ◌∷◌, slice_index_or}
use Rattle.std.specs.List.{list_all}
use Rattle.sis_base.specs.Rows.{agrees, some_matches, value_by_phase, HasWidth}
use Rattle.cover_min.specs.Minimum.{Meaning}

-- a tie of the bit in a column to the value that rows give by a phase; past the last column the bit
-- is 0
pub record NodeConstraint : Type 0 where
  pub place : ℕ
  pub rows : List (List (Option Bool))
  pub phase : Bool

-- whether a point satisfies a tie: its bit in the column is the value of the rows there
abbrev pub keeps : List Bool → NodeConstraint → Bool
keeps point tie = agrees (Some (value_by_phase tie.phase tie.rows point)) (slice_index_or point tie.place false)

-- whether a point satisfies all ties
abbrev pub keeps_all : List NodeConstraint → List Bool → Bool
keeps_all ties point = list_all (keeps point) ties

-- rows of a width, and ties
pub record Tied : Type 0 where
  pub width : ℕ
  pub rows : List (List (Option Bool))
  pub ties : List NodeConstraint

-- the function of the rows at the points that satisfy all ties; all others are free
abbrev pub meaning_of : Tied → Meaning
meaning_of tied = record {
  width = tied.width;
  on = λ point. some_matches tied.rows point && keeps_all tied.ties point;
  off = λ point. not (some_matches tied.rows point) && keeps_all tied.ties point;
}

-- the rows of all ties have the width
abbrev pub AreWide : ℕ → List NodeConstraint → Type 0
AreWide width [] = Unit {0}
AreWide width (tie ∷ ties) = HasWidth width tie.rows × AreWide width ties

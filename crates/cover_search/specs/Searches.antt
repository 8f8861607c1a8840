-- The state of the search for a point at each of its steps. No public clause needs these
-- definitions. Source: Davis, Logemann and Loveland, "A machine program for theorem-proving"
-- (Communications of the ACM 5, 1962: what is left to be satisfied at each split); De Micheli,
-- "Synthesis and Optimization of Digital Circuits", chapter 7 (recursion on cofactors).
use Rattle.std.specs.Prelude.{◌≡◌, ℕ, Bool, true, false, if◌then◌else◌, Option, Some, None, List, [], ◌∷◌, ◌++◌, length, slice_index_or, slice_set, is_none}
use Rattle.std.specs.List.{list_all}
use Rattle.sis_base.specs.Rows.{agrees, matches, some_matches, phase_value, HasWidth, IsPoint}
use Rattle.cube_cover.specs.Covers.{agreeing_rows}
use Rattle.cube_cover.specs.Literals.{rows_intersect, some_contains}
use Rattle.cover_min.specs.Points.{has_point}
use Rattle.cover_search.specs.Ties.{NodeConstraint}

-- that rows give a bit; or with a tie, the point's bit in its column, complemented if the bit is 0
pub record Constraint : Type 0 where
  pub tie : Option ℕ
  pub bit : Bool
  pub rows : List (List (Option Bool))

-- the value that rows must have at a point
abbrev pub wanted : Option ℕ → Bool → List Bool → Bool
wanted None bit point = bit
wanted (Some place) bit point = phase_value bit (slice_index_or point place false)

-- whether the rows have that value
abbrev pub satisfies : List Bool → Constraint → Bool
satisfies point constraint = agrees (Some (wanted constraint.tie constraint.bit point)) (some_matches constraint.rows point)

-- whether the rows of all constraints have their values
unfoldable pub satisfies_all : List Constraint → List Bool → Bool
satisfies_all constraints point = list_all (satisfies point) constraints

-- the rows of all constraints have the width
unfoldable pub AllWide : ℕ → List Constraint → Type 0
AllWide width [] = Unit {0}
AllWide width (constraint ∷ constraints) = HasWidth width constraint.rows × AllWide width constraints

-- the rows that have a point of the given one
unfoldable pub meeting_rows : List (Option Bool) → List (List (Option Bool)) → List (List (Option Bool))
meeting_rows given [] = []
meeting_rows given (row ∷ rows) = if rows_intersect row given then row ∷ meeting_rows given rows else meeting_rows given rows

-- a tie as a constraint, with the rows that have a point of the given one
abbrev pub constraint_of : List (Option Bool) → NodeConstraint → Constraint
constraint_of given tie = record { tie = Some tie.place; bit = tie.phase; rows = meeting_rows given tie.rows }

-- the rows that agree with a literal in a column; all rows for a dash
abbrev pub narrowed_rows : Option Bool → ℕ → List (List (Option Bool)) → List (List (Option Bool))
narrowed_rows None place rows = rows
narrowed_rows (Some bit) place rows = agreeing_rows place bit rows

-- a constraint with the rows that agree with the given one in a column
abbrev pub narrowed : List (Option Bool) → ℕ → Constraint → Constraint
narrowed given place constraint = record { tie = constraint.tie; bit = constraint.bit; rows = narrowed_rows (slice_index_or given place None) place constraint.rows }

-- a bit by a phase, if it is known
abbrev pub known_by_phase : Bool → Option Bool → Option Bool
known_by_phase phase None = None
known_by_phase phase (Some bit) = Some (phase_value phase bit)

-- the value that rows must have at all points of the given row, if it is one bit
abbrev pub wanted_within : List (Option Bool) → Option ℕ → Bool → Option Bool
wanted_within given None bit = Some bit
wanted_within given (Some place) bit = known_by_phase bit (slice_index_or given place (Some false))

-- the value of rows at all points of the given row, if it is evident
abbrev pub value_within : List (Option Bool) → List (List (Option Bool)) → Option Bool
value_within given [] = Some false
value_within given (row ∷ rows) = if some_contains given (row ∷ rows) then Some true else None

-- whether two bits are equal, if both are known
abbrev pub verdict_of : Option Bool → Option Bool → Option Bool
verdict_of None value = None
verdict_of (Some bit) None = None
verdict_of (Some bit) (Some value) = Some (agrees (Some bit) value)

-- whether a constraint is satisfied at all points of the given row, or at none, if that is evident
unfoldable pub verdict_within : List (Option Bool) → Constraint → Option Bool
verdict_within given constraint = verdict_of (wanted_within given constraint.tie constraint.bit) (value_within given constraint.rows)

-- the constraints that are left, followed by one more if it is not decided
abbrev pub with_open : List Constraint → Constraint → Option Bool → List Constraint
with_open constraints constraint None = constraints ++ constraint ∷ []
with_open constraints constraint (Some met) = constraints

-- two tests have the same answer at each point of the given row
pub record SameWithin (given : List (Option Bool)) (test other : List Bool → Bool) : Type 0 where
  pub same : (point : List Bool) → IsPoint (length given) point → matches given point ≡ true → test point ≡ other point

-- what is left of constraints within the given row: of the same width, and satisfied at the same
-- points
pub record IsLeft (given : List (Option Bool)) (constraints left : List Constraint) : Type 0 where
  pub wide : AllWide (length given) left
  pub same : SameWithin given (satisfies_all left) (satisfies_all constraints)

-- a positive literal
abbrev pub is_positive : Option Bool → Bool
is_positive None = false
is_positive (Some bit) = bit

-- the value that rows must have at the one point of a row without a dash
abbrev pub wanted_at : List (Option Bool) → Option ℕ → Bool → Bool
wanted_at given None bit = bit
wanted_at given (Some place) bit = phase_value bit (is_positive (slice_index_or given place None))

-- whether the rows have that value there
abbrev pub is_satisfied_at : List (Option Bool) → Constraint → Bool
is_satisfied_at given constraint = agrees (Some (wanted_at given constraint.tie constraint.bit)) (some_contains given constraint.rows)

-- a row with the literal of a bit in a column, if it has a dash there
abbrev pub filled_at : List (Option Bool) → ℕ → Bool → List (Option Bool)
filled_at row place bit = if is_none (slice_index_or row place (Some bit)) then slice_set row place (Some bit) else row

-- a row of the same width that has only points of the given one
pub record IsPart (given row : List (Option Bool)) : Type 0 where
  pub width : length row ≡ length given
  pub points : (test : List Bool → Bool) → has_point test row ≡ true → has_point test given ≡ true

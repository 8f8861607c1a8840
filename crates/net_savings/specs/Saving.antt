-- What the tables at indices lose if they are divided by a cover, what it saves then, and whether
-- it leaves all tables narrow.
-- Source: Brayton, Rudell, Sangiovanni-Vincentelli and Wang, "MIS: A Multiple-Level Logic
-- Optimization System" (1987): the value of a divisor is the literals that it saves.
use Rattle.std.specs.Prelude.{◌≡◌, ℕ, ◌+◌, ◌-◌, ◌≤◌, true, Option, Some, None, List, length}
use Rattle.std.specs.List.{sum_by, AllByRecursion}
use Rattle.circuit_model.specs.Counts.{literals_of_table}
use Rattle.circuit_model.specs.declared.circuit.Table.{Table}
use Rattle.net_candidates.specs.Extracting.{IsNarrow}
use Rattle.cover_names.specs.Literals.{NamedCover}
use Rattle.net_work.specs.Placed.{table_at}
use Rattle.alg_tables.specs.Dividing.{divided, cover_table}
use Rattle.sis_base.specs.declared.limits.TheConstants.{MAX_INPUTS}

-- how many literals a table loses if it is divided; 0 if there is no table
abbrev pub lost_by : List ℕ → NamedCover → Table → ℕ
lost_by name cover table = literals_of_table table - literals_of_table (divided name true cover table)

abbrev pub lost_of : List ℕ → NamedCover → Option Table → ℕ
lost_of name cover None = 0
lost_of name cover (Some table) = lost_by name cover table

-- a table, if there is one, stays as it is or narrow
abbrev pub IsNarrowIn : List ℕ → NamedCover → Option Table → Type 0
IsNarrowIn name cover None = Unit {0}
IsNarrowIn name cover (Some table) = IsNarrow name cover table

-- what a table loses; none if it would have too many inputs
abbrev pub IsLoss : List ℕ → NamedCover → Option Table → Option ℕ → Type 0
IsLoss name cover table None = IsNarrowIn name cover table → ⊥
IsLoss name cover table (Some lost) = (lost ≡ lost_of name cover table) × IsNarrowIn name cover table

-- what the tables at some indices lose together
abbrev pub lost_at : List ℕ → NamedCover → List (Option Table) → List ℕ → ℕ
lost_at name cover slots places = sum_by (λ place. lost_of name cover (table_at slots place)) places

-- what the tables at some indices lose together; none if one of them would have too many inputs
abbrev pub AreLosses : List ℕ → NamedCover → List (Option Table) → List ℕ → Option ℕ → Type 0
AreLosses name cover slots places None = (place : ℕ) × (IsNarrowIn name cover (table_at slots place) → ⊥)
AreLosses name cover slots places (Some lost) =
    (lost ≡ lost_at name cover slots places) × AllByRecursion (λ place. IsNarrowIn name cover (table_at slots place)) places

-- a cover leaves all tables narrow: its own, and each that it divides
pub record LeavesNarrow (tables : List Table) (name : List ℕ) (cover : NamedCover) : Type 0 where
  pub added : length (cover_table name cover).inputs ≤ MAX_INPUTS
  pub changed : AllByRecursion (IsNarrow name cover) tables

-- a cover that leaves all tables narrow saves so many literals, one or more
pub record IsSaving (tables : List Table) (name : List ℕ) (cover : NamedCover) (number : ℕ) : Type 0 where
  pub narrow : LeavesNarrow tables name cover
  pub exact : number + literals_of_table (cover_table name cover) ≡ sum_by (lost_by name cover) tables
  pub some : 1 ≤ number

-- what a cover saves, if it saves any
abbrev pub IsSaved : List Table → List ℕ → NamedCover → Option ℕ → Type 0
IsSaved tables name cover None = (number : ℕ) → IsSaving tables name cover number → ⊥
IsSaved tables name cover (Some number) = IsSaving tables name cover number

-- Tables whose rows are single literals, and their first rows that become a table. No public clause
-- needs these definitions. Source: the SIS report (UCB/ERL M92/41), `tech_decomp`.
use Rattle.std.specs.Prelude.{◌≡◌, ℕ, ◌+◌, ◌-◌, ◌^◌, ◌<◌, ◌≤◌, Bool, true, Option, Some, None, List, [], ◌∷◌, ◌++◌, map, take, drop, length, replicate, slice_set}
use Rattle.std.specs.List.{AllByRecursion}
use Rattle.circuit_model.specs.Names.{has, all_different}
use Rattle.circuit_model.specs.Soundness.{given}
use Rattle.circuit_model.specs.declared.circuit.Table.{Table}
use Rattle.circuit_tables.specs.Tidy.{tidied, rows_differ}
use Rattle.net_core.specs.Fresh.{IsNewName, node_count}
use Rattle.net_core.specs.Reads.{IsBounded}
use Rattle.net_core.specs.Tables.{characters_of}
use Rattle.net_work.specs.Placed.{Placed, circuit_of, table_at, with_last, with_slot}
use Rattle.net_decomp.specs.Partings.{rows_of}
use Rattle.net_decomp.specs.Cursor.{IsAlong, weight}
use Rattle.net_decomp.specs.declared.rule.Rule.{Rule}
use Rattle.net_decomp.specs.declared.rule.Rule.TheVariants.{Gates}
use Rattle.net_decomp.specs.declared.sums.Literal.{Literal}
use Rattle.net_decomp.specs.declared.sums.Sum.{Sum}
use Rattle.sis_base.specs.declared.limits.TheConstants.{MAX_NODES}

-- a row of one literal
abbrev pub single_row : ℕ → Literal → List (Option Bool)
single_row width literal = slice_set (replicate width None) literal.place (Some literal.bit)

-- the rows of single literals
abbrev pub sum_rows : ℕ → List Literal → List (List (Option Bool))
sum_rows width literals = map (single_row width) literals

-- a literal in the columns after the first ones, and the rows of such literals
abbrev pub shifted : ℕ → Literal → Literal
shifted from literal = record { place = literal.place - from; bit = literal.bit }

abbrev pub shifted_rows : ℕ → ℕ → List Literal → List (List (Option Bool))
shifted_rows width from literals =
    map (λ (literal : Literal). single_row width (shifted from literal)) literals

-- the table of single literals over names, in its normal form
abbrev pub sum_table : List (List ℕ) → List ℕ → Bool → List Literal → Table
sum_table names name phase literals = tidied (record { inputs = names; output = name; rows = map characters_of (sum_rows (length names) literals); phase = phase })

-- the index of a literal is below a number of names
abbrev pub IsBelow : ℕ → Literal → Type 0
IsBelow width literal = literal.place < width

-- the index of a literal is from one number up to another
abbrev pub IsBetween : ℕ → ℕ → Literal → Type 0
IsBetween from to literal = (from ≤ literal.place) × (literal.place < to)

-- no name and no literal is listed twice, and each literal has a name
pub record IsListed (names : List (List ℕ)) (literals : List Literal) : Type 0 where
  pub different : all_different names ≡ true
  pub below : AllByRecursion (IsBelow (length names)) literals
  pub differ : rows_differ (map characters_of (sum_rows (length names) literals)) ≡ true

-- a rule lets a gate have at most so many rows, two or more
abbrev pub IsSumBound : Rule → ℕ → Type 0
IsSumBound rule most = (products : ℕ) × (rule ≡ Gates products most) × (2 ≤ most)

-- the rows of a table are single literals
pub record IsSum (table : Table) (sum : Sum) : Type 0 where
  pub names : sum.names ≡ table.inputs
  pub phase : sum.phase ≡ table.phase
  pub below : AllByRecursion (IsBelow (length table.inputs)) sum.literals.items
  pub rows : rows_of table ≡ sum_rows (length table.inputs) sum.literals.items

-- the rows of the table at an index are single literals, and the rule bounds their number
pub record IsSumAt (rule : Rule) (slots : List (Option Table)) (place : ℕ) (sum : Sum) : Type 0 where
  pub table : Table
  pub there : table_at slots place ≡ Some table
  pub bound : IsSumBound rule sum.most
  pub is : IsSum table sum

-- the first literals after an index became a table, and its signal the last literal
pub record IsFirstParted (first most : ℕ) (names : List (List ℕ)) (literals : List Literal) (before : Placed) (names_now : List (List ℕ)) (literals_now : List Literal) (now : Placed) : Type 0 where
  pub name : List ℕ
  pub names_are : names_now ≡ names ++ name ∷ []
  pub literals_are : literals_now ≡ literals ++ (record { place = length names; bit = true }) ∷ []
  pub room : node_count (circuit_of before) < MAX_NODES
  pub fresh : IsNewName (circuit_of before) name
  pub added : now ≡ with_last before (sum_table names name true (take most (drop first literals)))
  pub bounded : IsBounded (sum_table names name true (take most (drop first literals)))
  pub small : (length names + 1 < 2 ^ 30) × (length literals + 1 < 2 ^ 33)

-- a signal of a working network
abbrev pub IsGiven : Placed → List ℕ → Type 0
IsGiven now name = has (given (circuit_of now)) name ≡ true

-- single literals over names represent the table at an index: with their table there, the working
-- network is one that steps lead to
pub record IsSumOn (rule : Rule) (place : ℕ) (phase : Bool) (before : Placed) (names : List (List ℕ)) (literals : List Literal) (now : Placed) : Type 0 where
  pub table : Table
  pub there : table_at now.slots place ≡ Some table
  pub different : all_different names ≡ true
  pub known : AllByRecursion (IsGiven now) names
  pub below : AllByRecursion (IsBelow (length names)) literals
  pub differ : rows_differ (map characters_of (sum_rows (length names) literals)) ≡ true
  pub along : IsAlong rule place before (with_slot now place (Some (sum_table names table.output phase literals)))
  pub light : weight place (with_slot now place (Some (sum_table names table.output phase literals))) ≤ weight place before

-- Rows of tables that are kept, what a divisor saves in all of them together, and which of the
-- divisors that save and are admissible is first. Source: Rajski and Vasudevamurthy, "The
-- testability-preserving concurrent decomposition and factorization of Boolean expressions" (IEEE
-- Transactions on CAD 11, 1992): the weight of a divisor is a sum over pairs of cubes, and a
-- divisor itself costs its literals. The order among covers that save as much is the project's own.
use Rattle.std.specs.Prelude.{◌≡◌, ℕ, ◌+◌, ◌<◌, ◌≤◌, Bool, ◌&&◌, List, [], ◌∷◌, ◌++◌, slice_set}
use Rattle.std.specs.List.{sum_by, list_all}
use Rattle.std.specs.declared.cmp.Ordering.TheVariants.{Less}
use Rattle.circuit_model.specs.Names.{has}
use Rattle.circuit_model.specs.declared.circuit.Table.{Table}
use Rattle.cover_names.specs.Literals.{Cube, NamedCover, cover_cmp}
use Rattle.net_candidates.specs.Candidates.{literals_in}
use Rattle.net_gains.specs.Gains.{gains}
use Rattle.circuit_tables.specs.Tidy.{rows_differ}

-- names, and the cubes of each table's rows
pub record Kept : Type 0 where
  pub names : List (List ℕ)
  pub tables : List (List Cube)

-- the same with one more table's cubes, and with the cubes at an index replaced
abbrev pub with_last : Kept → List Cube → Kept
with_last kept cubes = record kept { tables = kept.tables ++ cubes ∷ [] }

abbrev pub with_cubes : Kept → ℕ → List Cube → Kept
with_cubes kept place cubes = record kept { tables = slice_set kept.tables place cubes }

-- a table can be counted: each input is one of the names, and no row occurs twice
abbrev pub is_countable : List (List ℕ) → Table → Bool
is_countable names table = list_all (has names) table.inputs && rows_differ table.rows

-- what a cover saves in all tables together, the literals of its own table not subtracted
abbrev pub total : Kept → NamedCover → ℕ
total kept cover = sum_by (gains cover) kept.tables

-- a cover saves more than its own literals
abbrev pub Saves : Kept → NamedCover → Type 0
Saves kept cover = literals_in cover < total kept cover

-- of the covers that save and pass none saves more, and none that comes before it as much
pub record IsFirst (Passes : NamedCover → Type 0) (kept : Kept) (cover : NamedCover) : Type 0 where
  pub saves : Saves kept cover
  pub passes : Passes cover
  pub most : (other : NamedCover) → Saves kept other → Passes other → total kept other + literals_in cover ≤ total kept cover + literals_in other
  pub first : (other : NamedCover) → Saves kept other → Passes other → total kept other + literals_in cover ≡ total kept cover + literals_in other
      → cover_cmp other cover ≡ Less → ⊥

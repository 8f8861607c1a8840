-- Elimination: the inner table of least value is composed into all its fanouts, and removed; again
-- and again, until none is left whose value is small enough and that its fanouts can take.
-- Source: Brayton, Rudell, Sangiovanni-Vincentelli and Wang, "MIS: A Multiple-Level Logic
-- Optimization System" (1987), and the SIS report (UCB/ERL M92/41), `eliminate`; De Micheli,
-- "Synthesis and Optimization of Digital Circuits", chapter 8 (elimination by the value of a
-- vertex). The limits are the project's own.
use Rattle.std.specs.Prelude.{◌≡◌, ℕ, ℤ, Bool, true, false, not, ◌&&◌, if◌then◌else◌, Option, Some, None, is_none, List, [], ◌∷◌, ◌++◌, map, filter, int_lt, ◌⊎◌}
use Rattle.std.specs.List.{AllByRecursion, list_all}
use Rattle.std.specs.Option.{option_map}
use Rattle.circuit_model.specs.declared.circuit.Table.{Table}
use Rattle.circuit_model.specs.declared.circuit.Circuit.{Circuit}
use Rattle.circuit_laws.specs.Edits.{with_tables, with_removed, is_root}
use Rattle.net_core.specs.Reads.{value_of}
use Rattle.alg_tables.specs.Taking.{composed_into, take_refusal}
use Rattle.sis_base.specs.declared.limits.TheConstants.{MAX_ROWS}

-- whether each fanout can take a table: no list has more than `MAX_ROWS` rows, and no result has
-- more than `rows` rows or more than `MAX_INPUTS` inputs
unfoldable pub all_take : ℕ → Circuit → Table → Bool
all_take rows circuit inner = list_all (λ (outer : Table). is_none (take_refusal MAX_ROWS rows inner outer)) circuit.tables

-- whether a table may be eliminated: it drives no output and no latch input, its value is not above
-- the threshold, and all its fanouts can take it
unfoldable pub is_candidate : ℤ → ℕ → Circuit → Table → Bool
is_candidate threshold rows circuit table =
    not (is_root circuit table.output) && (not (int_lt threshold (value_of circuit.tables table.output)) && all_take rows circuit table)

-- of a table and a later one, if there is one, that of lesser value; the table itself if both have
-- the same
abbrev pub lesser : (Table → ℤ) → Table → Option Table → Table
lesser value table None = table
lesser value table (Some later) = if int_lt (value later) (value table) then later else table

-- the first table of least value, if there is a table
unfoldable pub least : (Table → ℤ) → List Table → Option Table
least value [] = None
least value (table ∷ tables) = Some (lesser value table (least value tables))

-- a table is the first of least value among others: those before it have greater values, and none
-- after it has a lesser one
pub record IsFirstLeast (value : Table → ℤ) (tables : List Table) (table : Table) : Type 0 where
  pub before : List Table
  pub after : List Table
  pub among : tables ≡ before ++ table ∷ after
  pub greater : AllByRecursion (λ other. int_lt (value table) (value other) ≡ true) before
  pub no_lesser : AllByRecursion (λ other. int_lt (value other) (value table) ≡ false) after

-- a table is composed into all its fanouts
abbrev pub with_taken : Circuit → Table → Circuit
with_taken circuit inner = with_tables circuit (map (composed_into inner) circuit.tables)

-- a table is composed into all its fanouts, and removed
abbrev pub with_eliminated : Circuit → Table → Circuit
with_eliminated circuit inner = with_removed (with_taken circuit inner) inner.output

-- of the tables that may be eliminated, that of least value, the first of several, is eliminated
unfoldable pub eliminate_step : ℤ → ℕ → Circuit → Option Circuit
eliminate_step threshold rows circuit =
    option_map (with_eliminated circuit)
    (least (λ (table : Table). value_of circuit.tables table.output) (filter (is_candidate threshold rows circuit) circuit.tables))

-- the finished form: each inner table has a value above the threshold, or some fanout cannot take
-- it
abbrev pub IsEliminated : ℤ → ℕ → Circuit → Type 0
IsEliminated threshold rows circuit =
    AllByRecursion (λ (table : Table). is_root circuit table.output ≡ false
    → (int_lt threshold (value_of circuit.tables table.output) ≡ true) ⊎ (all_take rows circuit table ≡ false)) circuit.tables

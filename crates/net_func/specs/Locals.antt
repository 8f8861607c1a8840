-- The local function of a table, and which of its parts may be too big.
-- Source: De Micheli, "Synthesis and Optimization of Digital Circuits", chapter 8 (logic networks:
-- the local function of a node); R. E. Bryant, "Graph-Based Algorithms for Boolean Function
-- Manipulation", IEEE Transactions on Computers C-35 (1986) (functions made by operations on
-- others).
use Rattle.std.specs.Prelude.{ℕ, Bool, Option, List, [], ◌⊎◌, map, take, slice_index_or}
use Rattle.sis_base.specs.Rows.{matches, some_matches, value_by_phase}
use Rattle.circuit_model.specs.Values.{literal_of}
use Rattle.circuit_model.specs.declared.circuit.Table.{Table}
use Rattle.func_core.specs.Numbers.{IsBig}

-- the local function of a table: its inputs, its rows as literals by columns, and its phase
pub record LocalFunction : Type 0 where
  pub inputs : List (List ℕ)
  pub rows : List (List (Option Bool))
  pub phase : Bool

-- the local function of a table
abbrev pub local_of : Table → LocalFunction
local_of table = record {
  inputs = table.inputs;
  rows = map (map literal_of) table.rows;
  phase = table.phase;
}

-- its value at the bits of its inputs
abbrev pub local_value : LocalFunction → List Bool → Bool
local_value local bits = value_by_phase local.phase local.rows bits

-- over functions that give the bits of its inputs at each valuation: the product of the first
-- literals of one of its rows is too big, or the sum of its first rows is (a complement is as big
-- as its function)
abbrev pub HasBigPart : ℕ → LocalFunction → ((ℕ → Bool) → List Bool) → Type 0
HasBigPart limit local bits =
    ((row count : ℕ) × IsBig limit
    (λ point. matches (take count (slice_index_or local.rows row [])) (bits point)))
    ⊎ ((count : ℕ) × IsBig limit (λ point. some_matches (take count local.rows) (bits point)))

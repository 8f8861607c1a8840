-- The topological order of tables: each comes after the tables that it reads. Source: Kahn,
-- "Topological sorting of large networks" (Communications of the ACM 5, 1962); De Micheli,
-- "Synthesis and Optimization of Digital Circuits", chapter 8 (logic networks): topological order.
use Rattle.std.specs.Prelude.{◌≡◌, ℕ, zero, suc, Bool, true, not, ◌&&◌, Some, List, [], ◌∷◌, ◌++◌, length, find}
use Rattle.std.specs.List.{list_all}
use Rattle.std.specs.Option.{option_map_or}
use Rattle.circuit_model.specs.Names.{has, all_different}
use Rattle.circuit_model.specs.Values.{driver}
use Rattle.circuit_model.specs.Soundness.{outputs_of}
use Rattle.circuit_model.specs.declared.circuit.Table.{Table}

-- a signal waits if it is a table's output that is not listed yet
unfoldable pub waits : List Table → List (List ℕ) → List ℕ → Bool
waits tables listed signal = has (outputs_of tables) signal && not (has listed signal)

-- a table is ready if it is not listed yet and none of its inputs waits
unfoldable pub is_ready : List Table → List (List ℕ) → Table → Bool
is_ready tables listed table = not (has listed table.output) && list_all (λ input. not (waits tables listed input)) table.inputs

-- lists the first table that is ready, again and again, at most as often as the fuel says; it ends
-- when none is ready
unfoldable pub order_from : List Table → ℕ → List (List ℕ) → List (List ℕ)
order_from tables zero listed = listed
order_from tables (suc fuel) listed =
    option_map_or (λ (table : Table). order_from tables fuel (listed ++ table.output ∷ [])) (find (is_ready tables listed) tables) listed

-- the order of tables, by their outputs: each can be listed once, so the fuel is the number of
-- tables
unfoldable pub order_of : List Table → List (List ℕ)
order_of tables = order_from tables (length tables) []

-- names are an order of tables if no name occurs twice, the names are exactly the tables' outputs,
-- and each comes after all outputs of tables that its table reads
pub record IsOrdered (tables : List Table) (names : List (List ℕ)) : Type 0 where
  pub once : all_different names ≡ true
  pub each : (name : List ℕ) → has names name ≡ has (outputs_of tables) name
  pub behind : (before after : List (List ℕ)) (name input : List ℕ) (table : Table) → names ≡ before ++ name ∷ after → driver tables name ≡ Some table
      → has table.inputs input ≡ true → has (outputs_of tables) input ≡ true → has before input ≡ true

-- The indices of the tables that a table reads, and so the graph of all indices. No public clause
-- needs these definitions.
-- Source: De Micheli, "Synthesis and Optimization of Digital Circuits", chapter 8 (a logic network
-- as a directed graph).
use Rattle.std.specs.Prelude.{◌≡◌, ℕ, suc, true, Option, Some, None, List, [], ◌∷◌, map, flat_map, bytes_eq, if◌then◌else◌, option_to_list}
use Rattle.std.specs.Option.{option_map}
use Rattle.circuit_model.specs.Names.{has}
use Rattle.circuit_model.specs.declared.circuit.Table.{Table}
use Rattle.net_work.specs.Placed.{table_at}
use Rattle.net_work.specs.Slots.{inputs_in}

-- the index of the first table that drives a name, if there is one
unfoldable pub place_named : List (Option Table) → List ℕ → Option ℕ
place_named [] name = None
place_named (None ∷ slots) name = option_map suc (place_named slots name)
place_named (Some table ∷ slots) name = if bytes_eq name table.output then Some 0 else option_map suc (place_named slots name)

-- the indices of the tables that drive names, in the order of the names
abbrev pub places_named : List (Option Table) → List (List ℕ) → List ℕ
places_named slots names = flat_map (λ name. option_to_list (place_named slots name)) names

-- each index reads those of the tables that drive its table's inputs
unfoldable pub graph_of : List (Option Table) → List (List ℕ)
graph_of slots = map (λ slot. places_named slots (inputs_in slot)) slots

-- the table at an index reads all that the one at another index reads
pub record ReadsAll (slots : List (Option Table)) (place by : ℕ) : Type 0 where
  pub table : Table
  pub other : Table
  pub here : table_at slots place ≡ Some table
  pub there : table_at slots by ≡ Some other
  pub all : (name : List ℕ) → has other.inputs name ≡ true → has table.inputs name ≡ true

-- What a table reads by the indices of tables, and which indices are ready. Source: Kahn,
-- "Topological sorting of large networks" (Communications of the ACM 5, 1962): for each item the
-- count of those that precede it and the list of those that follow it.
use Rattle.std.specs.Prelude.{◌≡◌, ℕ, Bool, false, Option, Some, None, List, ◌==◌, is_some, count_by, slice_get}
use Rattle.circuit_model.specs.declared.circuit.Table.{Table}

-- a map from names to indices maps each table's output to its index, and no other name
pub record IsIndex (tables : List Table) (place : List ℕ → Option ℕ) : Type 0 where
  pub placed : (i : ℕ) (table : Table) → slice_get tables i ≡ Some table → place table.output ≡ Some i
  pub only : (name : List ℕ) (i : ℕ) → place name ≡ Some i → (table : Table) × (slice_get tables i ≡ Some table) × (table.output ≡ name)

-- whether an index is found and is this one
abbrev pub is_at : ℕ → Option ℕ → Bool
is_at i None = false
is_at i (Some place) = place == i

-- how often a number occurs in a list
abbrev pub times : ℕ → List ℕ → ℕ
times i places = count_by (λ place. place == i) places

-- how many names are mapped to an index
abbrev pub hits : (List ℕ → Option ℕ) → ℕ → List (List ℕ) → ℕ
hits place i names = count_by (λ name. is_at i (place name)) names

-- how many names are mapped to any index
abbrev pub placed_count : (List ℕ → Option ℕ) → List (List ℕ) → ℕ
placed_count place names = count_by (λ name. is_some (place name)) names

-- how often the table at an index, if there is one, reads the table at another
abbrev pub hits_of : (List ℕ → Option ℕ) → ℕ → Option Table → ℕ
hits_of place i None = 0
hits_of place i (Some table) = hits place i table.inputs

-- whether there is a count that is 0
abbrev pub is_done : Option ℕ → Bool
is_done None = false
is_done (Some count) = count == 0

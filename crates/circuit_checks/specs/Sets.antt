-- Names as a set: membership, insertion, the index of a name; tables as a graph over indices; and
-- the faults of a table, by sets. Source: BLIF appendix of the SIS report (UCB/ERL M92/41): signals
-- are known by their names alone.
use Rattle.std.specs.Prelude.{◌≡◌, ℕ, suc, Bool, false, not, ◌==◌, Option, Some, None, option_map, List, [], ◌∷◌, ◌++◌, map, find, slice_get, bytes_eq, if◌then◌else◌}
use Rattle.std.specs.Option.{option_or}
use Rattle.std.specs.List.{filter_map}
use Rattle.circuit_model.specs.Names.{has}
use Rattle.circuit_model.specs.Soundness.{outputs_of}
use Rattle.circuit_model.specs.declared.circuit.Table.{Table}

-- two lists have the same names
abbrev pub Alike : List (List ℕ) → List (List ℕ) → Type 0
Alike names others = (name : List ℕ) → has names name ≡ has others name

-- the names with one more, if it is new
unfoldable pub with_name : List (List ℕ) → List ℕ → List (List ℕ)
with_name names name = if has names name then names else names ++ name ∷ []

-- the first index of a name in a list
unfoldable pub place_in : List (List ℕ) → List ℕ → Option ℕ
place_in [] name = None
place_in (first ∷ names) name = if bytes_eq name first then Some 0 else option_map suc (place_in names name)

-- tables as a graph over their indices: a table has edges to the tables that drive its inputs
unfoldable pub graph_of : List Table → List (List ℕ)
graph_of tables = map (λ (table : Table). filter_map (place_in (outputs_of tables)) table.inputs) tables

-- the output of the table at an index
unfoldable pub output_at : List Table → Option ℕ → Option (List ℕ)
output_at tables None = None
output_at tables (Some place) = option_map (λ (table : Table). table.output) (slice_get tables place)

-- whether an index is the one that was found
abbrev pub is_at : Option ℕ → ℕ → Bool
is_at None place = false
is_at (Some one) place = one == place

-- the first input of a table that is not in a set; else its output, if it is on a cycle
unfoldable pub bad_input_or_cycle : List (List ℕ) → Bool → Table → Option (List ℕ)
bad_input_or_cycle known on_cycle table =
    option_or (find (λ name. not (has known name)) table.inputs) (if on_cycle then Some table.output else None)

-- the name by which a table breaks a rule, by the sets of the known names and of the outputs before
-- it
unfoldable pub bad_name_by : List (List ℕ) → List (List ℕ) → Bool → Table → Option (List ℕ)
bad_name_by known before on_cycle table =
    if has before table.output then Some table.output else bad_input_or_cycle known on_cycle table

-- How the code folds a table: it lists names one by one, and merges each row into a buffer. No
-- public clause needs these definitions; the lemmas of proofs/Once.antt and proofs/Buffer.antt say
-- that they give what `Folding` defines.
use Rattle.std.specs.Prelude.{ℕ, Option, Some, None, List, [], ◌∷◌, ◌++◌, map, bytes_eq, slice_index_or, slice_set, if◌then◌else◌}
use Rattle.std.specs.List.{filter_map, position_or_len}
use Rattle.std.specs.Option.{option_map_or}
use Rattle.circuit_model.specs.Names.{has}
use Rattle.circuit_model.specs.declared.circuit.Tri.{Tri}
use Rattle.circuit_model.specs.declared.circuit.Tri.TheVariants.{Free}
use Rattle.circuit_tables.specs.Folding.{merged, each_once}

-- some names followed by each other name, in the order of first appearance
unfoldable pub names_with : List (List ℕ) → List (List ℕ) → List (List ℕ)
names_with known [] = known
names_with known (name ∷ names) = names_with (if has known name then known else known ++ name ∷ []) names

-- the index of each input among the distinct inputs
unfoldable pub places_of : List (List ℕ) → List ℕ
places_of inputs = map (λ name. position_or_len (bytes_eq name) (each_once inputs)) inputs

-- a row with further characters merged into the given columns; none if a column is asked for both
-- bits
unfoldable pub merge_row : List Tri → List ℕ → List Tri → Option (List Tri)
merge_row out [] row = Some out
merge_row out (place ∷ places) [] = Some out
merge_row out (place ∷ places) (character ∷ row) =
    option_map_or (λ both. merge_row (slice_set out place both) places row) (merged (slice_index_or out place Free) character) None

-- the row that asks for nothing
abbrev pub dashes_of : List (List ℕ) → List Tri
dashes_of names = map (λ (name : List ℕ). Free) names

-- the rows merged into the columns of their inputs
unfoldable pub merged_rows : List (List ℕ) → List (List Tri) → List (List Tri)
merged_rows inputs rows = filter_map (merge_row (dashes_of (each_once inputs)) (places_of inputs)) rows

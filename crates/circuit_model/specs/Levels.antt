-- The bits of all signals at once, found level by level, with each signal known by its index in a
-- list. Source: De Micheli, "Synthesis and Optimization of Digital Circuits", chapter 8 (levels of
-- a logic network), and the meaning of `.names` and `.exdc` in the BLIF appendix of the SIS report
-- (UCB/ERL M92/41). An index is none if no signal has the name. Only clauses of private functions
-- need this module.
use Rattle.std.specs.Prelude.{ℕ, zero, suc, Bool, false, Option, Some, None, List, [], ◌∷◌, ◌++◌, map, length, bytes_eq, slice_index_or, if◌then◌else◌}
use Rattle.circuit_model.specs.Values.{table_value}
use Rattle.circuit_model.specs.Runs.{tri_of}
use Rattle.circuit_model.specs.Soundness.{leaf_names, outputs_of}
use Rattle.circuit_model.specs.declared.circuit.Tri.{Tri}
use Rattle.circuit_model.specs.declared.circuit.Tri.TheVariants.{Free}
use Rattle.circuit_model.specs.declared.circuit.Table.{Table}
use Rattle.circuit_model.specs.declared.circuit.Latch.{Latch}
use Rattle.circuit_model.specs.declared.circuit.Circuit.{Circuit}
use Rattle.circuit_model.specs.declared.wiring.OutputPlaces.{OutputPlaces}
use Rattle.circuit_model.specs.declared.wiring.Wiring.{Wiring}

-- the index of the first of some names that equals a given one, if the first of them has index
-- `start`
unfoldable pub place_from : ℕ → List (List ℕ) → List ℕ → Option ℕ
place_from start [] name = None
place_from start (first ∷ names) name = if bytes_eq name first then Some start else place_from (suc start) names name

-- the index of the first of some names that equals a given one, counted from 0
unfoldable pub place_in : List (List ℕ) → List ℕ → Option ℕ
place_in names name = place_from 0 names name

-- the bit of an index; false if there is none
abbrev pub bit_at : List Bool → Option ℕ → Bool
bit_at bits None = false
bit_at bits (Some place) = slice_index_or bits place false

-- the leaves, followed by the tables' outputs
unfoldable pub signal_names : Circuit → List (List ℕ)
signal_names circuit = leaf_names circuit ++ outputs_of circuit.tables

-- in the don't-care part the part's own tables come first
unfoldable pub dont_care_names : Circuit → List (List ℕ)
dont_care_names circuit = outputs_of circuit.dont_care ++ leaf_names circuit

-- the indices of the inputs of each table
abbrev pub reads_in : (List ℕ → Option ℕ) → List Table → List (List (Option ℕ))
reads_in place tables = map (λ (table : Table). map place table.inputs) tables

-- an output has an index among the signals, and one among the don't-care tables
abbrev pub output_places : (List ℕ → Option ℕ) → (List ℕ → Option ℕ) → List (List ℕ) → List OutputPlaces
output_places signal dont_care outputs = map (λ (name : List ℕ). record { signal = signal name; dont_care = dont_care name }) outputs

-- the indices of the inputs of the latches
abbrev pub latch_places : (List ℕ → Option ℕ) → List Latch → List (Option ℕ)
latch_places place latches = map (λ (latch : Latch). place latch.input) latches

-- all indices at which a simulation reads
unfoldable pub wiring_of : Circuit → Wiring
wiring_of circuit = record {
  tables = reads_in (place_in (signal_names circuit)) circuit.tables;
  dont_care = reads_in (place_in (dont_care_names circuit)) circuit.dont_care;
  outputs = output_places (place_in (signal_names circuit)) (place_in (outputs_of circuit.dont_care)) circuit.outputs;
  latches = latch_places (place_in (signal_names circuit)) circuit.latches;
}

-- the tables' values, given the bits of all signals
unfoldable pub level_of : List Table → List (List (Option ℕ)) → List Bool → List Bool
level_of [] reads bits = []
level_of (table ∷ tables) [] bits = []
level_of (table ∷ tables) (places ∷ reads) bits = table_value table (map (bit_at bits) places) ∷ level_of tables reads bits

-- the bits of all signals to a depth: those of the tables are between others, which stay
unfoldable pub bits_to : List Table → List (List (Option ℕ)) → List Bool → List Bool → ℕ → List Bool
bits_to tables reads front back zero = front ++ (map (λ (table : Table). false) tables ++ back)
bits_to tables reads front back (suc depth) =
    front ++ (level_of tables reads (bits_to tables reads front back depth) ++ back)

-- the bits of all signals to the depth after which they do not change if there is no cycle: the
-- number of tables
unfoldable pub settled_bits : List Table → List (List (Option ℕ)) → List Bool → List Bool → List Bool
settled_bits tables reads front back = bits_to tables reads front back (length tables)

-- what an output shows: `-` if its don't-care table is 1
abbrev pub tri_at : List Bool → List Bool → OutputPlaces → Tri
tri_at bits free_bits places = if bit_at free_bits places.dont_care then Free else tri_of (bit_at bits places.signal)

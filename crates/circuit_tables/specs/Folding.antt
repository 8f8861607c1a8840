-- Folding of a table that lists an input twice: each input is listed once. Source: BLIF appendix of
-- the SIS report (UCB/ERL M92/41), `.names`: each character of a row asks for a bit of its column's
-- input; De Micheli, "Synthesis and Optimization of Digital Circuits", chapter 7: a product of
-- literals that asks for both values of a variable is empty.
use Rattle.std.specs.Prelude.{ℕ, true, not, Option, Some, None, List, [], ◌∷◌, bytes_eq, if◌then◌else◌}
use Rattle.std.specs.List.{filter, filter_map}
use Rattle.std.specs.Option.{option_map, option_map_or}
use Rattle.circuit_model.specs.Names.{all_different}
use Rattle.circuit_model.specs.declared.circuit.Tri.{Tri}
use Rattle.circuit_model.specs.declared.circuit.Tri.TheVariants.{Zero, One, Free}
use Rattle.circuit_model.specs.declared.circuit.Table.{Table}

-- the character that asks for what both ask for; none if they ask for different bits
abbrev pub merged : Tri → Tri → Option Tri
merged Free other = Some other
merged Zero Zero = Some Zero
merged Zero One = None
merged Zero Free = Some Zero
merged One Zero = None
merged One One = Some One
merged One Free = Some One

-- the character that asks for what all ask for; a dash if there are none
abbrev pub all_merged : List Tri → Option Tri
all_merged [] = Some Free
all_merged (character ∷ characters) = option_map_or (merged character) (all_merged characters) None

-- the characters of a row in the columns of a name
unfoldable pub under : List ℕ → List (List ℕ) → List Tri → List Tri
under name [] row = []
under name (input ∷ inputs) [] = []
under name (input ∷ inputs) (character ∷ row) = if bytes_eq input name then character ∷ under name inputs row else under name inputs row

-- the distinct names, in the order of their first appearance
unfoldable pub each_once : List (List ℕ) → List (List ℕ)
each_once [] = []
each_once (name ∷ names) = name ∷ filter (λ other. not (bytes_eq name other)) (each_once names)

-- the character that a row over the inputs gives each of some names; none if it asks one of them
-- for both bits
unfoldable pub asked_of : List (List ℕ) → List Tri → List (List ℕ) → Option (List Tri)
asked_of inputs row [] = Some []
asked_of inputs row (name ∷ names) =
    option_map_or (λ character. option_map (λ others. character ∷ others) (asked_of inputs row names)) (all_merged (under name inputs row)) None

-- the rows over the distinct inputs, without those that ask an input for both bits
unfoldable pub folded_rows : List (List ℕ) → List (List Tri) → List (List Tri)
folded_rows inputs rows = filter_map (λ row. asked_of inputs row (each_once inputs)) rows

-- the constant 1: no inputs, and one row that always matches
abbrev pub constant_one : List ℕ → Table
constant_one output = record { inputs = []; output = output; rows = [] ∷ []; phase = true }

-- a table over its distinct inputs and these rows; with phase 0 and no row it is the constant 1
unfoldable pub with_rows : Table → List (List Tri) → Table
with_rows table [] =
    if table.phase then record table { inputs = each_once table.inputs; rows = [] } else constant_one table.output
with_rows table (row ∷ rows) = record table { inputs = each_once table.inputs; rows = row ∷ rows }

-- the folded table; one whose inputs are all different stays as it is
unfoldable pub folded : Table → Table
folded table =
    if all_different table.inputs then table else with_rows table (folded_rows table.inputs table.rows)

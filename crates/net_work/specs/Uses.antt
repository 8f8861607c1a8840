-- The uses of signals: for each signal the rows with a literal of it, table by table. Source:
-- Brayton, Rudell, Sangiovanni-Vincentelli and Wang, "MIS: A Multiple-Level Logic Optimization
-- System" (1987): how often a node is used decides its elimination value.
use Rattle.std.specs.Prelude.{◌≡◌, ℕ, suc, Option, Some, None, List, [], ◌∷◌, bytes_eq, if◌then◌else◌}
use Rattle.indexmap.specs.IndexMap.{get}
use Rattle.circuit_model.specs.declared.circuit.Tri.{Tri}
use Rattle.circuit_model.specs.declared.circuit.Table.{Table}
use Rattle.net_core.specs.Reads.{rows_with}
use Rattle.net_work.specs.declared.counts.UseCounts.{UseCounts}

-- for each of some inputs, the first of which has the given column, the number of rows with a
-- literal of it
unfoldable pub uses_from : ℕ → List (List ℕ) → List (List Tri) → List ℕ
uses_from place [] rows = []
uses_from place (input ∷ inputs) rows = rows_with place rows ∷ uses_from (suc place) inputs rows

-- for each input of a table the number of rows with a literal of it
abbrev pub AreUses : List ℕ → Table → Type 0
AreUses numbers table = numbers ≡ uses_from 0 table.inputs table.rows

-- the number at the first position of a name; 0 if the name is not listed
unfoldable pub number_of : List (List ℕ) → List ℕ → List ℕ → ℕ
number_of [] numbers name = 0
number_of (first ∷ names) [] name = 0
number_of (first ∷ names) (number ∷ numbers) name = if bytes_eq name first then number else number_of names numbers name

-- a count, 0 if there is none
abbrev pub count_at : Option ℕ → ℕ
count_at None = 0
count_at (Some count) = count

-- the use count of a signal
abbrev pub told_uses : UseCounts → List ℕ → ℕ
told_uses uses name = count_at (get bytes_eq uses.counts name)

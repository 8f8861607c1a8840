-- The slots of a network: each has a table with its name, or is empty because its table was
-- removed; names lead to slots. Source: De Micheli, "Synthesis and Optimization of Digital
-- Circuits", chapter 8 (a logic network as a set of nodes known by their names).
use Rattle.std.specs.Prelude.{◌≡◌, ℕ, Option, Some, None, List, [], ◌∷◌, slice_get}
use Rattle.circuit_model.specs.declared.circuit.Table.{Table}
use Rattle.net_core.specs.Tables.{named, IsOverInputs}
use Rattle.net_core.specs.declared.places.Entry.{Entry}

-- the circuit's table of an entry
abbrev pub written_of : {R : Type 0} → Entry R → Table
written_of entry = named entry.output entry.table

-- the tables in slots, in order
unfoldable pub present : {R : Type 0} → List (Option (Entry R)) → List Table
present [] = []
present (None ∷ slots) = present slots
present (Some entry ∷ slots) = written_of entry ∷ present slots

-- each table's name leads to its slot, and each name that leads to a slot is that of the table
-- there
pub record IsIndexed {R : Type 0} (slots : List (Option (Entry R))) (place_of : List ℕ → Option ℕ) : Type 0 where
  pub placed : (i : ℕ) (entry : Entry R) → slice_get slots i ≡ Some (Some entry) → place_of entry.output ≡ Some i
  pub only : (name : List ℕ) (i : ℕ) → place_of name ≡ Some i → (entry : Entry R) × (slice_get slots i ≡ Some (Some entry)) × (entry.output ≡ name)

-- each table's cover has a column for each of its inputs
unfoldable pub AreOverInputs : {R : Type 0} → List (Option (Entry R)) → Type 0
AreOverInputs {R} slots = (i : ℕ) (entry : Entry R) → slice_get slots i ≡ Some (Some entry) → IsOverInputs entry.table

-- Tables whose rows are a cover, and the tables of circuits that they represent. Source: BLIF
-- appendix of the SIS report (UCB/ERL M92/41), `.names`; De Micheli, "Synthesis and Optimization of
-- Digital Circuits", chapter 8 (the local function of a node). The characters of a row are those of
-- circuit_model, the literals of a row those of sis_base.
use Rattle.std.specs.Prelude.{◌≡◌, ℕ, Bool, true, false, Option, Some, None, List, map, length}
use Rattle.std.specs.List.{AllByRecursion}
use Rattle.circuit_model.specs.Values.{literal_of}
use Rattle.circuit_model.specs.declared.circuit.Tri.{Tri}
use Rattle.circuit_model.specs.declared.circuit.Tri.TheVariants.{Zero, One, Free}
use Rattle.circuit_model.specs.declared.circuit.Table.{Table}
use Rattle.net_core.specs.declared.table.CoverTable.{CoverTable}

-- the character of a literal or dash
abbrev pub character_of : Option Bool → Tri
character_of None = Free
character_of (Some true) = One
character_of (Some false) = Zero

-- the literals and dashes of a row of characters
abbrev pub places_of : List Tri → List (Option Bool)
places_of row = map literal_of row

-- the characters of a row of literals and dashes
abbrev pub characters_of : List (Option Bool) → List Tri
characters_of row = map character_of row

-- the table of a circuit that drives a name by a table
unfoldable pub named : {R : Type 0} → List ℕ → CoverTable R → Table
named name table = record {
  inputs = table.inputs;
  output = name;
  rows = map characters_of table.cover.rows;
  phase = table.phase;
}

-- the table with the inputs, rows and phase of a circuit's table
unfoldable pub covered : {R : Type 0} → Table → CoverTable R
covered written = record {
  inputs = written.inputs;
  cover = record { width = length written.inputs; rows = map places_of written.rows };
  phase = written.phase;
}

-- the cover has a column for each input
abbrev pub IsOverInputs : {R : Type 0} → CoverTable R → Type 0
IsOverInputs table = table.cover.width ≡ length table.inputs

-- each row has the given number of characters
abbrev pub HasCharacters : ℕ → List (List Tri) → Type 0
HasCharacters width rows = AllByRecursion (λ (row : List Tri). length row ≡ width) rows

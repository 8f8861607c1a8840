-- What is maintained with the tables in their slots: the fanouts of each signal, its uses, the
-- index of each name, and a number up to which all names in brackets are in use. Source: Brayton,
-- Rudell, Sangiovanni-Vincentelli and Wang, "MIS: A Multiple-Level Logic Optimization System"
-- (1987): fanouts and values of nodes.
use Rattle.std.specs.Prelude.{◌≡◌, ℕ, ◌<◌, true, false, Option, Some, None, List, [], map, slice_get}
use Rattle.std.specs.Option.{option_map}
use Rattle.circuit_model.specs.Names.{has, all_different}
use Rattle.circuit_model.specs.declared.circuit.Table.{Table}
use Rattle.circuit_model.specs.declared.circuit.Circuit.{Circuit}
use Rattle.circuit_laws.specs.Edits.{with_tables}
use Rattle.net_readers.specs.Fanouts.{told, AreReaders}
use Rattle.net_core.specs.Fresh.{bracketed, used_names}
use Rattle.net_core.specs.Places.{written_of, IsIndexed, AreOverInputs}
use Rattle.net_core.specs.Reads.{uses_of}
use Rattle.net_core.specs.declared.places.Entry.{Entry}
use Rattle.net_work.specs.Uses.{told_uses}
use Rattle.net_work.specs.Placed.{standing, table_at}
use Rattle.net_work.specs.declared.links.Links.{Links}

-- the tables of entries as those of a circuit
abbrev pub written_slots : {R : Type 0} → List (Option (Entry R)) → List (Option Table)
written_slots slots = map (option_map written_of) slots

-- a table without its rows and phase: its names are all that an order of tables depends on
abbrev pub bare : Table → Table
bare table = record table { rows = []; phase = false }

-- the inputs of a table, none if there is none
abbrev pub inputs_in : Option Table → List (List ℕ)
inputs_in None = []
inputs_in (Some table) = table.inputs

-- the inputs of the table at each index
abbrev pub inputs_at : List (Option Table) → ℕ → List (List ℕ)
inputs_at slots place = inputs_in (table_at slots place)

-- the fanouts and uses are exactly those of the tables in slots
pub record AreLinked (links : Links) (slots : List (Option Table)) : Type 0 where
  pub readers : AreReaders (told links.readers) (inputs_at slots)
  pub uses : (name : List ℕ) → told_uses links.uses name ≡ uses_of (standing slots) name

-- each table lists each of its inputs once
unfoldable pub AreOnce : {R : Type 0} → List (Option (Entry R)) → Type 0
AreOnce {R} slots = (place : ℕ) (entry : Entry R) → slice_get slots place ≡ Some (Some entry) → all_different entry.table.inputs ≡ true

-- no name in brackets below a number is free
abbrev pub AreTaken : Circuit → List Table → ℕ → Type 0
AreTaken frame tables number = (other : ℕ) → other < number → has (used_names (with_tables frame tables)) (bracketed other) ≡ true

-- the invariant of a working network: all that is maintained with the tables is right
pub record IsKeptUp {R : Type 0} (frame : Circuit) (slots : List (Option (Entry R))) (place_of : List ℕ → Option ℕ) (links : Links) (number : ℕ) : Type 0 where
  pub indexed : IsIndexed slots place_of
  pub over : AreOverInputs slots
  pub once : AreOnce slots
  pub linked : AreLinked links (written_slots slots)
  pub taken : AreTaken frame (standing (written_slots slots)) number

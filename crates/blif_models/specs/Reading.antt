-- What is wrong with models whose lines have no fault, in three parts. Only clauses of this crate's
-- own functions cite this module.
use Rattle.std.specs.Prelude.{ℕ, Option, List, [], ◌∷◌, slice_index_or}
use Rattle.std.specs.Option.{option_map}
use Rattle.sis_text.specs.Entries.{Entry}
use Rattle.genlib_format.specs.declared.gate.Gate.{Gate}
use Rattle.blif_lines.specs.declared.fault.BlifFault.{BlifFault}
use Rattle.blif_lines.specs.declared.fault.BlifFault.TheVariants.{NameClash}
use Rattle.blif_lines.specs.Lines.{first_of, long_fault}
use Rattle.blif_models.specs.Made.{names_in, first_clash}
use Rattle.blif_models.specs.Sizes.{count_fault}
use Rattle.blif_models.specs.Reader.{recursion, depth_fault, twice_fault, ports_fault, made_names}

-- the first model
abbrev pub first_in : List (List Entry) → List Entry
first_in models = slice_index_or models 0 []

-- what is wrong with how models nest
unfoldable pub nesting_fault : List (List Entry) → Option BlifFault
nesting_fault models = first_of (recursion models ∷ depth_fault models ∷ [])

-- what is wrong with the ports of models and with the size of the first
unfoldable pub sides_fault : Option (List Gate) → List (List Entry) → Option BlifFault
sides_fault library models = first_of (twice_fault models ∷ ports_fault library models ∷ count_fault models (first_in models) ∷ [])

-- the first name that is made and clashes
abbrev pub clash_fault : List (List Entry) → List (List ℕ) → Option BlifFault
clash_fault models made = option_map (λ name. NameClash name) (first_clash (names_in (first_in models)) made)

-- what is wrong with the names that are made
unfoldable pub made_fault : Option (List Gate) → List (List Entry) → Option BlifFault
made_fault library models = first_of (long_fault (made_names library models (first_in models)) ∷ clash_fault models (made_names library models (first_in models)) ∷ [])

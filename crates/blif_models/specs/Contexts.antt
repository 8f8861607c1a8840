-- The models of a file with their tables, as the code passes them on. Only clauses of this crate's
-- own functions cite this module.
use Rattle.std.specs.Prelude.{ℕ, Option, List, map, option_copied}
use Rattle.sis_text.specs.Entries.{Entry}
use Rattle.genlib_format.specs.declared.gate.Gate.{Gate as TheGate}
use Rattle.blif_models.specs.Tables.{AreTables}
use Rattle.blif_models.specs.declared.ports.Ports.{Ports}
use Rattle.blif_models.specs.declared.flat.Models.{Models}

abbrev pub library_in : Models → Option (List TheGate)
library_in models = option_copied models.library

abbrev pub models_in : Models → List (List Entry)
models_in models = models.file.now.models

abbrev pub text_in : Models → List ℕ
text_in models = models.file.now.text

-- the tables are right
abbrev pub AreRight : Models → Type 0
AreRight models = AreTables (library_in models) (models_in models) (map (λ (ports : Ports). ports.inputs) models.ports.now) models.sizes.now

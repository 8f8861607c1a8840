use Rattle.std.proofs.Common.{◌≡◌, ◌++◌, List, flat_map}
use Rattle.sis_text.specs.Entries.{Entry}
use Rattle.blif_lines.specs.Reader.{model_lines, clocks_in}
use Rattle.blif_models.specs.Models.{used_models}
use Rattle.blif_models.specs.FirstModel.{clocks_from}
use Rattle.blif_models.proofs.first_model.used_clocks.Given as goal

abbrev pub invariant-loop-place : goal.invariant-loop-place
invariant-loop-place l = l.names ++ clocks_from l.file.models l.place ≡ flat_map (λ (model : List Entry). clocks_in (model_lines model)) (used_models l.file.models)

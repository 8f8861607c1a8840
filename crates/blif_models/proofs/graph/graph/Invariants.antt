use Rattle.std.proofs.Common.{◌≡◌, map, take}
use Rattle.std.specs.List.{filter_map}
use Rattle.sis_text.specs.Entries.{Entry}
use Rattle.std.proofs.Common.{List}
use Rattle.blif_models.specs.Models.{index_of, model_of, instances_in}
use Rattle.blif_models.proofs.graph.graph.Given as goal

abbrev pub invariant-loop-place : goal.invariant-loop-place
invariant-loop-place l =
    l.graph.items ≡ map (λ (model : List Entry). filter_map (λ (line : Entry). index_of l.file.models (model_of line)) (instances_in model)) (take l.place l.file.models)

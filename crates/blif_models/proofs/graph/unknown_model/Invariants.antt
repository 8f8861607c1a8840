use Rattle.std.proofs.Common.{◌≡◌, not, find, map, drop}
use Rattle.std.specs.List.{flat_map}
use Rattle.sis_text.specs.Entries.{Entry}
use Rattle.circuit_model.specs.Names.{has}
use Rattle.blif_lines.specs.Reader.{model_name}
use Rattle.blif_models.specs.Models.{model_of, instances_in}
use Rattle.blif_models.proofs.graph.unknown_model.Given as goal

abbrev pub invariant-loop-place : goal.invariant-loop-place
invariant-loop-place l =
    find (λ (line : Entry). not (has (map model_name l.file.models) (model_of line))) (flat_map instances_in (drop l.place l.file.models))
    ≡ find (λ (line : Entry). not (has (map model_name l.file.models) (model_of line))) (flat_map instances_in l.file.models)

use Rattle.std.proofs.Common.{◌≡◌, map, take}
use Rattle.blif_lines.specs.Reader.{model_lines}
use Rattle.blif_models.specs.Files.{models_at}
use Rattle.blif_models.proofs.file.bodies_of.Given as goal

abbrev pub invariant-loop-model : goal.invariant-loop-model
invariant-loop-model l = models_at l.text l.bodies.items ≡ map model_lines (models_at l.text (take l.model-index l.models))

use Rattle.std.proofs.Common.{◌≡◌, ◌++◌, length}
use Rattle.blif_models.specs.Files.{lines_at, models_at}
use Rattle.blif_models.specs.Models.{models_of}
use Rattle.blif_models.proofs.file.models_of.Given as goal

abbrev pub invariant-loop-rest : goal.invariant-loop-rest
invariant-loop-rest l = models_at l.text l.models.items ++ models_of (lines_at l.text l.rest) ≡ models_of (lines_at l.text l.lines)

abbrev pub decreases-loop-rest : goal.decreases-loop-rest
decreases-loop-rest l = length l.rest

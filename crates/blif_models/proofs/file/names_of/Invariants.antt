use Rattle.std.proofs.Common.{◌≡◌, ℕ, List, take}
use Rattle.blif_models.specs.Files.{models_at, place_of}
use Rattle.blif_models.specs.Models.{index_of}
use Rattle.blif_models.proofs.file.names_of.Given as goal

abbrev pub invariant-loop-place : goal.invariant-loop-place
invariant-loop-place l = (query : List ℕ) → place_of l.names query ≡ index_of (models_at l.text (take l.place l.models)) query

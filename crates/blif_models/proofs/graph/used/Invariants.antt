use Rattle.std.proofs.Common.{◌≡◌, map}
use Rattle.std.specs.List.{range_with_len}
use Rattle.blif_models.specs.Models.{is_used}
use Rattle.blif_models.proofs.graph.used.Given as goal

abbrev pub invariant-loop-place : goal.invariant-loop-place
invariant-loop-place l = l.used.items ≡ map (is_used l.graph) (range_with_len 0 l.place)

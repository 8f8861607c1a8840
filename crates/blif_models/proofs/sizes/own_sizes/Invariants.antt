use Rattle.std.proofs.Common.{◌≡◌, map}
use Rattle.std.specs.List.{range_with_len}
use Rattle.blif_models.specs.Sizes.{own_size}
use Rattle.blif_models.proofs.sizes.own_sizes.Given as goal

abbrev pub invariant-loop-place : goal.invariant-loop-place
invariant-loop-place l = l.own.items ≡ map (own_size l.file.models) (range_with_len 0 l.place)

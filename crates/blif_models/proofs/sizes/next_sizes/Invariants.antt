use Rattle.std.proofs.Common.{◌≡◌, map}
use Rattle.std.specs.List.{range_with_len}
use Rattle.blif_models.specs.Sizes.{next_size}
use Rattle.blif_models.proofs.sizes.next_sizes.Given as goal

abbrev pub invariant-loop-place : goal.invariant-loop-place
invariant-loop-place l = l.next.items ≡ map (next_size l.own l.graph l.sizes) (range_with_len 0 l.place)

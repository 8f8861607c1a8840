use Rattle.std.proofs.Common.{◌≡◌, take}
use Rattle.blif_models.specs.Sizes.{size_with}
use Rattle.blif_models.proofs.sizes.size_with.Given as goal

abbrev pub invariant-loop-place : goal.invariant-loop-place
invariant-loop-place l = l.size ≡ size_with l.own l.sizes (take l.place-index l.places)

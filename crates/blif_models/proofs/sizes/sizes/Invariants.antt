use Rattle.std.proofs.Common.{◌≡◌, ◌+◌}
use Rattle.blif_models.specs.Sizes.{sizes_at}
use Rattle.blif_models.proofs.sizes.sizes.Given as goal

abbrev pub invariant-loop-round : goal.invariant-loop-round
invariant-loop-round l = l.sizes.items ≡ sizes_at l.file.models (l._round + 1)

use Rattle.std.proofs.Common.{◌≡◌, map}
use Rattle.std.specs.List.{range_with_len}
use Rattle.circuit_gen.specs.Generated.{latch_at}
use Rattle.circuit_gen.proofs.generating.latches_over.Given as goal

abbrev pub invariant-loop-place : goal.invariant-loop-place
invariant-loop-place l = l.latches.items ≡ map (latch_at l.tables) (range_with_len 0 l.place)

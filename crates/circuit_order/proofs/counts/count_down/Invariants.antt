use Rattle.std.proofs.Common.{◌≡◌, ◌+◌, ℕ, length, take, slice_index_or}
use Rattle.circuit_order.specs.Places.{times}
use Rattle.circuit_order.proofs.counts.count_down.Given as goal

abbrev pub invariant-loop-place : goal.invariant-loop-place
invariant-loop-place l = (length l.counts ≡ length l.fn.counts) × ((i : ℕ) → slice_index_or l.counts i 0 + times i (take l.place-index l.places) ≡ slice_index_or l.fn.counts i 0)

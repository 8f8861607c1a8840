use Rattle.std.proofs.Common.{◌≡◌, ◌+◌, ◌==◌, ℕ, length, take, slice_index_or, [], bytes_eq, if◌then◌else◌}
use Rattle.indexmap.specs.IndexMap.{get}
use Rattle.circuit_order.specs.Places.{times, hits}
use Rattle.circuit_order.proofs.index.note_reads.Given as goal

abbrev pub invariant-loop-input : goal.invariant-loop-input
invariant-loop-input l =
    (length l.readers.items ≡ length l.fn.readers.items)
    × ((i j : ℕ) → times j (slice_index_or l.readers.items i []) ≡ times j (slice_index_or l.fn.readers.items i []) + (if l.reader == j then hits (get bytes_eq l.index) i (take l.input-index l.inputs) else 0))

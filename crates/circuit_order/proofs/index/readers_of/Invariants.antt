use Rattle.std.proofs.Common.{◌≡◌, ℕ, length, take, slice_get, slice_index_or, [], bytes_eq}
use Rattle.indexmap.specs.IndexMap.{get}
use Rattle.circuit_order.specs.Places.{times, hits_of}
use Rattle.circuit_order.proofs.index.readers_of.Given as goal

abbrev pub invariant-loop-reader : goal.invariant-loop-reader
invariant-loop-reader l =
    (length l.readers.items ≡ length l.tables) × ((i j : ℕ) → times j (slice_index_or l.readers.items i []) ≡ hits_of (get bytes_eq l.index) i (slice_get (take l.reader l.tables) j))
